-- Which object a slot names, by where it stands among all (profile of this project).
use Rattle.std.specs.Prelude.{ℕ, ◌≡◌, ◌<◌, List, length, slice_index, slice_index_or, Some}
use Rattle.trace_types.specs.declared.slots.Slot.{Slot}
use Rattle.trace_types.specs.declared.slots.Slot.TheVariants.{Nothing}
use Rattle.trace_types.specs.Slots.{named_by}
use Rattle.retention_model.specs.declared.place.Place.TheVariants.{Cell}
use Rattle.retention_model.specs.declared.place.Held.{Held}

-- the number says where the object that the slot names stands among the objects
abbrev pub IsTarget : List ℕ → Slot → ℕ → Type 0
IsTarget objects slot t = (o i : ℕ) → named_by slot ≡ Some o → i < length objects → (t ≡ i → o ≡ slice_index objects i) × (o ≡ slice_index objects i → t ≡ i)

-- the same of each place
pub record AreTargets (objects : List ℕ) (held : List Held) (targets : List ℕ) : Type 0 where
  pub long : length targets ≡ length held
  pub each : (p : ℕ) → p < length held → IsTarget objects (slice_index_or held p (record { place = Cell 0; slot = Nothing; since = 0 })).slot (slice_index targets p)
