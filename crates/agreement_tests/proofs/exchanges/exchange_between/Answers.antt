use Rattle.std.proofs.Common.{◌∙◌, [], ap, refl, sym, subst}
use Rattle.std.specs.Prelude.{Option, IfSome}
use Rattle.ownership_model.specs.declared.link.Link.TheVariants.{StrongOrWeak}
use Rattle.ownership_model.specs.Reach.{is_reached}
use Rattle.ownership_model.specs.Laws.{ReplayAlike}
use Rattle.ownership_model.specs.Patch.{Remains, patched}
use Rattle.ownership_model.proofs.LawsHold.{patches}
use Rattle.agreement.specs.Agreement.{AreRemains, is_apart}
use Rattle.agreement_tests.proofs.exchanges.exchange_between.Goals as goal

-- nothing was replayed since they agreed
pub returns-in_ok-exchange-in-Some : goal.returns-in_ok-exchange-in-Some
returns-in_ok-exchange-in-Some c =
    let new = c.args.new.now in
    let old = c.args.old.now in
    let x = c.in-Some.remains in
    let alike : ReplayAlike (is_apart new old) new old x = subst (λ (r : Option Remains). IfSome r (λ x. ReplayAlike (is_apart new old) new old x)) c.in-Some.is c.in_ok-agree.ensures.law in
    let remains : AreRemains new old x = subst (λ (r : Option Remains). IfSome r (λ x. AreRemains new old x)) c.in-Some.is c.in_ok-agree.ensures.remains in
    ap (patched c.args.old.now) c.in_ok-exchange-in-Some.ensures
    ∙ c.differing.ensures.patch old (patches.there (λ o. is_reached StrongOrWeak new o) new old old x remains (λ q apart. refl))
    ∙ sym (patches.later (is_apart new old) new old x alike [] [] refl tt tt).state
