-- What is kept of each place: its slot, and since which operation it stands there; and what a look at some places finds there later
-- (profile of this project).
use Rattle.std.specs.Prelude.{ℕ, ◌≡◌, ◌==◌, List, [], ◌∷◌, ◌++◌, Option, Some, None, Bool, true, false, slice_get, option_map, if◌then◌else◌}
use Rattle.std.specs.Ordering.{nat_cmp}
use Rattle.std.specs.BTreeMap.{get}
use Rattle.trace_types.specs.declared.slots.Slot.{Slot}
use Rattle.trace_types.specs.declared.slots.Slot.TheVariants.{Nothing}
use Rattle.ownership_model.specs.State.{State}
use Rattle.retention_model.specs.declared.place.Place.{Place}
use Rattle.retention_model.specs.declared.place.Place.TheVariants.{Handle, Cell, Field}
use Rattle.retention_model.specs.declared.mark.Moved.{Moved}
use Rattle.retention_model.specs.Places.{at}
use Rattle.retention_model.specs.Since.{is_same_slot}
use Rattle.retention_model.specs.Turns.{or_nothing, moved_if, at_place}
use Rattle.retention.specs.declared.dated.Dated.{Dated}
use Rattle.retention.specs.declared.dated.DatedFields.{DatedFields}
use Rattle.retention.specs.declared.dated.DatedHolding.{DatedHolding}
use Rattle.retention.specs.declared.dated.Owner.{Owner}
use Rattle.retention.specs.declared.dated.Owner.TheVariants as owner
use Rattle.retention.specs.declared.dates.Dates.{Dates}

-- of what a handle holds: the slot itself, or a field
abbrev pub dated_in : Option DatedHolding → Option ℕ → Option Dated
dated_in None i = None
dated_in (Some x) None = x.slot
dated_in (Some x) (Some i) = slice_get x.fields.slots.items i

-- of the fields of an object
abbrev pub dated_field : Option DatedFields → ℕ → Option Dated
dated_field None i = None
dated_field (Some ds) i = slice_get ds.slots.items i

-- of a place
abbrev pub dated_at : Dates → Place → Option Dated
dated_at d (Handle h i) = dated_in (get nat_cmp d.handles h) i
dated_at d (Cell c) = get nat_cmp d.cells c
dated_at d (Field o i) = dated_field (get nat_cmp d.objects o) i

-- The dates tell of each place what it holds in the state, and since when, as this says
abbrev pub Tell : Dates → State → (Place → ℕ) → Type 0
Tell d m since = (p : Place) → dated_at d p ≡ option_map (λ s. record { slot = s; since = since p }) (at m p)

-- a slot in its place after an operation with this number: one that stood there before keeps its date
abbrev pub redated : Option Dated → ℕ → Slot → Dated
redated None id s = record { slot = s; since = id }
redated (Some d) id s = if is_same_slot d.slot s then d else record { slot = s; since = id }

-- the same where there may be none
abbrev pub redated_if : Option Dated → ℕ → Option Slot → Option Dated
redated_if old id None = None
redated_if old id (Some s) = Some (redated old id s)

-- the same of fields
abbrev pub redated_all : ℕ → List Dated → List Slot → List Dated
redated_all id ds [] = []
redated_all id [] (s ∷ ss) = redated None id s ∷ redated_all id [] ss
redated_all id (d ∷ ds) (s ∷ ss) = redated (Some d) id s ∷ redated_all id ds ss

-- what a place holds where it was looked at, and where it wasn't
abbrev pub after_look : Bool → Option Dated → ℕ → Option Slot → Option Dated
after_look true old id now = redated_if old id now
after_look false old id now = old

-- the slot of a place that may not be there
abbrev pub slot_in : Option Dated → Slot
slot_in None = Nothing
slot_in (Some d) = d.slot

-- These places were looked at in the state after an operation with this number: the dates were d and are n now, and what moved was xs
-- and is ys now
pub record Looks (looked : Place → Bool) (m : State) (id : ℕ) (d n : Dates) (xs ys : List Moved) : Type 0 where
  pub dates : (p : Place) → dated_at n p ≡ after_look (looked p) (dated_at d p) id (at m p)
  pub moves : (p : Place) → at_place p ys ≡ at_place p xs ++ moved_if p (slot_in (dated_at d p)) (slot_in (dated_at n p))

-- Fields, of a handle's own value or of an object.

-- the place of a field
abbrev pub field_place : Owner → ℕ → Place
field_place (owner.Handle h) i = Handle h (Some i)
field_place (owner.Object o) i = Field o i

-- which of its fields a place is
abbrev pub index_in : Owner → Place → Option ℕ
index_in (owner.Handle h) (Handle g None) = None
index_in (owner.Handle h) (Handle g (Some j)) = if h == g then Some j else None
index_in (owner.Handle h) (Cell c) = None
index_in (owner.Handle h) (Field o j) = None
index_in (owner.Object o) (Handle g j) = None
index_in (owner.Object o) (Cell c) = None
index_in (owner.Object o) (Field q j) = if o == q then Some j else None

-- what moved at one of the fields, where these were the old ones and those are the new
abbrev pub moved_field : Option ℕ → Place → List Dated → List Slot → List Moved
moved_field None p ds ss = []
moved_field (Some j) p ds ss = moved_if p (slot_in (slice_get ds j)) (or_nothing (slice_get ss j))
