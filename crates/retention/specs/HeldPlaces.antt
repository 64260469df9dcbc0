-- The places that name an object, each with its slot and its date (profile of this project).
use Rattle.std.specs.Prelude.{ℕ, List, [], ◌∷◌, ◌++◌, flat_map, Option, Some, None}
use Rattle.std.specs.FinMap.{get, keys}
use Rattle.trace_types.specs.declared.slots.Slot.{Slot}
use Rattle.trace_types.specs.declared.slots.Slot.TheVariants.{Nothing, Strong, Weak, Dangling}
use Rattle.ownership_model.specs.State.{State}
use Rattle.retention_model.specs.declared.place.Place.{Place}
use Rattle.retention_model.specs.declared.place.Place.TheVariants.{Cell}
use Rattle.retention_model.specs.declared.place.Held.{Held}
use Rattle.retention_model.specs.Places.{at, handle_places, object_places}

-- a place with the slot there and its date, where the slot names an object
abbrev pub held_if : Place → Option Slot → ℕ → List Held
held_if p None since = []
held_if p (Some Nothing) since = []
held_if p (Some (Strong o)) since = record { place = p; slot = Strong o; since = since } ∷ []
held_if p (Some (Weak o)) since = record { place = p; slot = Weak o; since = since } ∷ []
held_if p (Some Dangling) since = []

-- those among some places, in their order
abbrev pub held_among : State → (Place → ℕ) → List Place → List Held
held_among m since ps = flat_map (λ p. held_if p (at m p) (since p)) ps

-- The places of handles and cells, in order, and those of the fields of some objects. Together they are all places of a state.

abbrev pub root_places_of : State → List Place
root_places_of m = flat_map (λ h. handle_places h (get m.handles h)) (keys m.handles) ++ flat_map (λ c. Cell c ∷ []) (keys m.cells)

abbrev pub field_places_of : State → List ℕ → List Place
field_places_of m os = flat_map (λ o. object_places o (get m.objects o)) os
