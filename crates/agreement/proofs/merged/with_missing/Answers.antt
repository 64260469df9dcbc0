use Rattle.std.proofs.Common.{◌∙◌, subst, List, ℕ}
use Rattle.std.proofs.lemmas.List.{take_all}
use Rattle.agreement.proofs.MergedLemmas.{HasMissing, missing_ends}
use Rattle.agreement.proofs.merged.with_missing.Goals as goal

pub returns : goal.returns
returns c =
    missing_ends c.args.first.now c.args.second.now c.loop-object.all
    (subst (λ (xs : List ℕ). HasMissing c.args.first.now c.args.second.now xs c.loop-object.all)
    (take_all c.loop-object.object-index c.deref-object-items.result.now c.loop-object-test.false ∙ c.deref-object-items.ensures.value ∙ c.in_ok-objects.ensures) c.loop-object.invariant)
