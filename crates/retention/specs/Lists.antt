-- The lists that readers of the dates make, and those of what an operation moved (profile of this project).
use Rattle.std.specs.Prelude.{ℕ, ◌+◌, List, [], ◌∷◌, ◌++◌, Option, Some, None}
use Rattle.trace_types.specs.declared.slots.Slot.{Slot}
use Rattle.trace_types.specs.declared.slots.Slot.TheVariants.{Nothing, Strong, Weak, Dangling}
use Rattle.retention_model.specs.declared.place.Place.{Place}
use Rattle.retention_model.specs.declared.place.Held.{Held}
use Rattle.retention_model.specs.declared.mark.Moved.{Moved}
use Rattle.retention.specs.HeldPlaces.{held_if}
use Rattle.retention.specs.declared.dated.Dated.{Dated}
use Rattle.retention.specs.declared.moves.Loss.{Loss}

-- a place with its slot and its date, where the slot names an object
abbrev pub held_dated : Place → Option Dated → List Held
held_dated p None = []
held_dated p (Some d) = held_if p (Some d.slot) d.since

-- the same of fields, the first of which has this index
abbrev pub held_fields : (ℕ → Place) → ℕ → List Dated → List Held
held_fields place i [] = []
held_fields place i (d ∷ ds) = held_dated (place i) (Some d) ++ held_fields place (i + 1) ds

-- that a slot was lost by an operation with this number, where it was a strong one
abbrev pub loss_if : ℕ → Slot → List Loss
loss_if id Nothing = []
loss_if id (Strong o) = record { object = o; id = id } ∷ []
loss_if id (Weak o) = []
loss_if id Dangling = []

-- the same of what moved
abbrev pub loss_of : ℕ → Moved → List Loss
loss_of id x = loss_if id x.before
