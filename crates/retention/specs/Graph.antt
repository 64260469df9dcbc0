-- The end of a replay as a graph, read by numbers from 0: objects as they stand among all, places as they stand among those that name an
-- object (profile of this project).
use Rattle.std.specs.Prelude.{ℕ, ◌≡◌, ◌+◌, ◌<◌, nat_lt, nat_le, ◌&&◌, List, length, Option, Some, None, Bool, false, slice_index, slice_index_or, if◌then◌else◌}
use Rattle.std.specs.FinMap.{get, keys}
use Rattle.trace_types.specs.declared.slots.Slot.{Slot}
use Rattle.trace_types.specs.declared.slots.Slot.TheVariants.{Nothing, Strong, Weak, Dangling}
use Rattle.ownership_model.specs.State.{State, is_alive}
use Rattle.retention_model.specs.declared.place.Place.{Place}
use Rattle.retention_model.specs.declared.place.Place.TheVariants.{Cell}
use Rattle.retention_model.specs.declared.place.Held.{Held}
use Rattle.retention_model.specs.Places.{IsRoot, IsFieldOf, places_of}
use Rattle.retention.specs.declared.graph.Graph.{Graph}
use Rattle.retention.specs.HeldPlaces.{held_among}
use Rattle.retention.specs.Layout.{IsWithin}
use Rattle.retention.specs.Targets.{AreTargets}

-- how many objects there are, and how many places
abbrev pub size : Graph → ℕ
size g = length g.objects.items

abbrev pub places : Graph → ℕ
places g = length g.held.items

-- the number of an object, and whether its value lives
abbrev pub object_at : Graph → ℕ → ℕ
object_at g i = slice_index g.objects.items i

abbrev pub alive_at : Graph → ℕ → Bool
alive_at g i = slice_index_or g.alive.items i false

-- a place that names an object; behind the last one, one that names none
abbrev pub held_at : Graph → ℕ → Held
held_at g p = slice_index_or g.held.items p (record { place = Cell 0; slot = Nothing; since = 0 })

-- the object that it names
abbrev pub target_at : Graph → ℕ → ℕ
target_at g p = slice_index g.targets.items p

-- the object, if it is one of so many, where the slot is an Arc
abbrev pub strong_target : Slot → ℕ → ℕ → Option ℕ
strong_target Nothing t n = None
strong_target (Strong o) t n = if nat_lt t n then Some t else None
strong_target (Weak o) t n = None
strong_target Dangling t n = None

-- the object that a place holds
abbrev pub holds : Graph → ℕ → Option ℕ
holds g p = strong_target (held_at g p).slot (target_at g p) (size g)

-- where the fields of an object begin
abbrev pub start_at : Graph → ℕ → ℕ
start_at g i = slice_index g.starts.items i

-- a place is a field of an object
abbrev pub IsFieldAt : Graph → ℕ → ℕ → Type 0
IsFieldAt g i p = IsWithin g.starts.items i p

abbrev pub is_field_at : Graph → ℕ → ℕ → Bool
is_field_at g i p = nat_le (start_at g i) p && nat_lt p (start_at g (i + 1))

-- it is one of a handle or a cell
abbrev pub is_root_at : Graph → ℕ → Bool
is_root_at g p = nat_lt p (start_at g 0)

-- it is a field of one of the objects that are marked
abbrev pub is_field_of : Graph → List Bool → ℕ → Bool
is_field_of g marks p = nat_le (start_at g 0) p && slice_index_or marks (slice_index g.sources.items p) false

-- The graph is that of a state in which each place holds its slot since this operation
pub record IsGraphOf (m : State) (since : Place → ℕ) (g : Graph) : Type 0 where
  pub objects : g.objects.items ≡ keys m.objects
  pub alive : (i : ℕ) → i < size g → alive_at g i ≡ is_alive (get m.objects (object_at g i))
  pub held : g.held.items ≡ held_among m since (places_of m)
  pub targets : AreTargets g.objects.items g.held.items g.targets.items
  pub roots : (p : ℕ) → p < places g → (p < start_at g 0 → IsRoot (held_at g p).place) × (IsRoot (held_at g p).place → p < start_at g 0)
  pub fields : (i p : ℕ) → i < size g → p < places g → (IsFieldAt g i p → IsFieldOf (object_at g i) (held_at g p).place) × (IsFieldOf (object_at g i) (held_at g p).place → IsFieldAt g i p)
