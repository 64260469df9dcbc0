use Rattle.std.proofs.Common.{◌≡◌, ◌++◌, take}
use Rattle.ownership_model.specs.Reach.{slots_names}
use Rattle.object_heap.proofs.reach.push_slots.Given as goal

abbrev pub invariant-loop-slot : goal.invariant-loop-slot
invariant-loop-slot l = l.names.items ≡ l.initial.names.items ++ slots_names l.by (take l.slot-index l.slots)
