use Rattle.std.proofs.Common.{◌++◌, take}
use Rattle.ownership_model.specs.Alike.{Covers}
use Rattle.ownership_model.specs.Footprint.{slots_keys}
use Rattle.object_heap.proofs.told.tell_slots.Given as goal

abbrev pub invariant-loop-slot : goal.invariant-loop-slot
invariant-loop-slot l = Covers l.keys.items (l.fn.keys.items ++ slots_keys (take l.slot-index l.slots))
