use Rattle.std.proofs.Common.{◌≡◌, ◌+◌, drop}
use Rattle.ownership_model.specs.State.{slots_weight, names_alike}
use Rattle.ownership_model.proofs.plain.state.count_in_slots.Given as goal

-- the count so far and that of what is left is that of all
abbrev pub invariant-loop-slot : goal.invariant-loop-slot
invariant-loop-slot l = l.count + slots_weight (names_alike l.counted) (drop l.slot-index l.slots) ≡ slots_weight (names_alike l.fn.counted) l.fn.slots
