use Rattle.std.proofs.Common.{◌∙◌, subst, List, ℕ}
use Rattle.std.proofs.lemmas.List.{take_all}
use Rattle.agreement.proofs.MergedLemmas.{LeavesOut, leaves_next, leaves_ends}
use Rattle.agreement.proofs.merged.without_all.Goals as goal

pub returns : goal.returns
returns c =
    leaves_ends c.args.first.now c.args.second.now c.loop-object.rest
    (subst (λ (xs : List ℕ). LeavesOut c.args.first.now xs c.loop-object.rest)
    (take_all c.loop-object.object-index c.deref-object-items.result.now c.loop-object-test.false ∙ c.deref-object-items.ensures.value ∙ c.in_ok-objects.ensures) c.loop-object.invariant)

pub loop-object-preserved : goal.loop-object-preserved
loop-object-preserved c =
    leaves_next c.args.first.now c.args.second.now c.deref-object-items.result.now c.loop-object.object-index 0 c.loop-object-test.true c.loop-object.rest c.remove.new.self c.in_ok-remove.ensures.ok c.loop-object.invariant
