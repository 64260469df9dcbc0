use Rattle.std.proofs.Common.{◌+◌, ◌∙◌, sym, ap, subst, drop, List, ℕ}
use Rattle.std.proofs.lemmas.List.{drop_all}
use Rattle.std.specs.FinMap.{keys}
use Rattle.ownership_model.specs.Patch.{Remains}
use Rattle.agreement.proofs.AgreeLemmas.{neither}
use Rattle.agreement.proofs.TrimmingLemmas.{IsTrimming, trimming_starts, trimming_skips, trimming_leaves_out, trimming_ends}
use Rattle.agreement.proofs.exchange.Exchange.trimmed.Goals.{then-is_same_at+in_ok-leave_out, else-is_same_at}
use Rattle.agreement.proofs.exchange.Exchange.trimmed.Goals as goal

pub loop-object-init : goal.loop-object-init
loop-object-init c = trimming_starts c.args.self.now c.in_ok-rest.rest c.deref-object-items.result.now c.in_ok-rest.ensures (c.deref-object-items.ensures.value ∙ c.in_ok-objects.ensures ∙ ap (λ (r : Remains). keys r.removed) c.self.view_is)

pub loop-object-preserved : goal.loop-object-preserved
loop-object-preserved c =
    let x = c.args.self.now in
    let xs = c.deref-object-items.result.now in
    let i = c.loop-object.object-index in
    elim c.if-is_same_at.branch [
      | then-is_same_at+in_ok-leave_out w ↦ subst (λ (r : Remains). IsTrimming x r (drop (i + 1) xs)) (sym w.rest-is)
          (trimming_leaves_out x c.loop-object.rest w.leave_out.new.self xs i 0 c.loop-object-test.true (c.is_same_at.ensures.0 w.if-is_same_at.true) w.in_ok-leave_out.ensures c.loop-object.invariant)
      | else-is_same_at w ↦ subst (λ (r : Remains). IsTrimming x r (drop (i + 1) xs)) (sym w.rest-is)
          (trimming_skips x c.loop-object.rest xs i 0 c.loop-object-test.true c.loop-object.invariant (λ same. neither c.is_same_at.result w.if-is_same_at.false (c.is_same_at.ensures.1 same)))
    ]

pub returns : goal.returns
returns c =
    let xs = c.deref-object-items.result.now in
    trimming_ends c.args.self.now c.loop-object.rest
    (subst (λ (todo : List ℕ). IsTrimming c.args.self.now c.loop-object.rest todo) (drop_all c.loop-object.object-index xs c.loop-object-test.false) c.loop-object.invariant)
