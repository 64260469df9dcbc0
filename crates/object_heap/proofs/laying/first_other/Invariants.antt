use Rattle.std.proofs.Common.{◌≡◌, take}
use Rattle.object_heap.proofs.laying.first_other.Given as goal

abbrev pub invariant-loop-at : goal.invariant-loop-at
invariant-loop-at l = take l.at l.fields ≡ take l.at l.slots
