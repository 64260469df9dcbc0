use Rattle.std.proofs.Common.{◌≡◌, take}
use Rattle.trace_types.specs.declared.slots.Slot.TheVariants.{Strong}
use Rattle.ownership_model.specs.State.{slots_weight, names_alike}
use Rattle.heap_difference.proofs.holders.naming.Given as goal

abbrev pub invariant-loop-slot : goal.invariant-loop-slot
invariant-loop-slot l = l.count ≡ slots_weight (names_alike (Strong l.object)) (take l.slot-index l.slots)
