-- What the slots weigh that a change brings, and those that go by it. `w` is what a slot weighs.
use Rattle.std.specs.Prelude.{ℕ, Option, Some, None, slice_get}
use Rattle.std.specs.FinMap.{get}
use Rattle.trace_types.specs.declared.slots.Slot.{Slot}
use Rattle.trace_types.specs.declared.slots.Entry.{Entry}
use Rattle.trace_types.specs.declared.slots.Entry.TheVariants.{Alive, Husk}
use Rattle.trace_types.specs.declared.slots.Change.{Change}
use Rattle.trace_types.specs.declared.slots.Change.TheVariants.{SetHandle, EndHandle, SetCell, EndCell, SetField, Make, TurnHusk}
use Rattle.ownership_model.proofs.Counting.{weight_at}
use Rattle.ownership_model.specs.State.{State, slots_weight, holding_weight, entry_weight}

-- what one field weighs, if there is such a field
abbrev pub field_weight : (Slot → ℕ) → Option Entry → ℕ → ℕ
field_weight w None i = 0
field_weight w (Some Husk) i = 0
field_weight w (Some (Alive fields)) i = weight_at w (slice_get fields i)

-- the slots that a change brings
abbrev pub gained : Change → (Slot → ℕ) → ℕ
gained (SetHandle t h x) w = holding_weight w x
gained (EndHandle h) w = 0
gained (SetCell c s) w = w s
gained (EndCell c) w = 0
gained (SetField o i s) w = w s
gained (Make o fields) w = slots_weight w fields
gained (TurnHusk o) w = 0

-- the slots that go by it
abbrev pub lost : State → Change → (Slot → ℕ) → ℕ
lost m (SetHandle t h x) w = weight_at (holding_weight w) (get m.handles h)
lost m (EndHandle h) w = weight_at (holding_weight w) (get m.handles h)
lost m (SetCell c s) w = weight_at w (get m.cells c)
lost m (EndCell c) w = weight_at w (get m.cells c)
lost m (SetField o i s) w = field_weight w (get m.objects o) i
lost m (Make o fields) w = 0
lost m (TurnHusk o) w = weight_at (entry_weight w) (get m.objects o)
