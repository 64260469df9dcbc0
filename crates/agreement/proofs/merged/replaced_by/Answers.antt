use Rattle.std.proofs.Common.{◌∙◌, subst, List, ℕ}
use Rattle.std.proofs.lemmas.List.{take_all}
use Rattle.agreement.proofs.MergedLemmas.{IsReplaced, replaced_ends}
use Rattle.agreement.proofs.merged.replaced_by.Goals as goal

pub returns : goal.returns
returns c =
    replaced_ends c.args.first.now c.args.second.now c.loop-object.all
    (subst (λ (xs : List ℕ). IsReplaced c.args.first.now c.args.second.now xs c.loop-object.all)
    (take_all c.loop-object.object-index c.deref-object-items.result.now c.loop-object-test.false ∙ c.deref-object-items.ensures.value ∙ c.in_ok-objects.ensures) c.loop-object.invariant)
