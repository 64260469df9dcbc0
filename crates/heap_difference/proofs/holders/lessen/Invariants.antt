use Rattle.std.proofs.Common.{◌≡◌, ◌++◌, take, drop}
use Rattle.std.specs.Prelude.{map}
use Rattle.heap_difference.specs.Holders.{less_by}
use Rattle.heap_difference.proofs.holders.lessen.Given as goal

abbrev pub invariant-loop-at : goal.invariant-loop-at
invariant-loop-at l = l.items ≡ map (less_by l.slots) (take l.at l.fn.items) ++ drop l.at l.fn.items
