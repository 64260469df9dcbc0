use Rattle.std.proofs.Common.{[], refl, subst}
use Rattle.std.specs.Prelude.{Option, IfSome}
use Rattle.ownership_model.specs.declared.link.Link.TheVariants.{StrongOrWeak}
use Rattle.ownership_model.specs.Reach.{is_reached}
use Rattle.ownership_model.specs.Laws.{ReplayAlike}
use Rattle.ownership_model.specs.Patch.{Remains}
use Rattle.ownership_model.proofs.LawsHold.{patches}
use Rattle.agreement.specs.Agreement.{AreRemains, is_apart}
use Rattle.agreement_tests.proofs.agreeing.made_new.Goals as goal

-- nothing was replayed since they agreed
pub patch-requires-clause-sound : goal.patch-requires-clause-sound
patch-requires-clause-sound c =
    let new = c.args.new.now in
    let old = c.args.old.now in
    let alike : ReplayAlike (is_apart new old) new old c.in-Some.remains = subst (λ (r : Option Remains). IfSome r (λ x. ReplayAlike (is_apart new old) new old x)) c.in-Some.is c.in_ok-agree.ensures.law in
    (patches.later (is_apart new old) new old c.in-Some.remains alike [] [] refl tt tt).sound

pub patch-requires-clause-there : goal.patch-requires-clause-there
patch-requires-clause-there c =
    let new = c.args.new.now in
    let old = c.args.old.now in
    let remains : AreRemains new old c.in-Some.remains = subst (λ (r : Option Remains). IfSome r (λ x. AreRemains new old x)) c.in-Some.is c.in_ok-agree.ensures.remains in
    patches.there (λ o. is_reached StrongOrWeak new o) new old old c.in-Some.remains remains (λ q apart. refl)
