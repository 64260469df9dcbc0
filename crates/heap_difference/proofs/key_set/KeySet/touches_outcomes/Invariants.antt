use Rattle.std.proofs.Common.{◌≡◌, take, false}
use Rattle.std.specs.List.{list_any}
use Rattle.heap_difference.specs.KeySets.{is_among}
use Rattle.heap_difference.specs.Naming.{outcome_keys}
use Rattle.heap_difference.proofs.key_set.KeySet.touches_outcomes.Given as goal

abbrev pub invariant-loop-outcome : goal.invariant-loop-outcome
invariant-loop-outcome l = list_any (λ x. list_any (is_among l.self) (outcome_keys x)) (take l.outcome-index l.outcomes) ≡ false
