use Rattle.std.proofs.Common.{◌≡◌, take, map}
use Rattle.heap_difference.specs.Alikes.{shifted_outcome}
use Rattle.heap_difference.proofs.recounted.recounted.Given as goal

abbrev pub invariant-loop-outcome : goal.invariant-loop-outcome
invariant-loop-outcome l = l.items.items ≡ map (shifted_outcome l.shifts) (take l.outcome-index l.outcomes)
