-- Where slots stand: in handles, in cells, and in the fields of values, those that live in an allocation and those that a handle holds
-- itself (profile of this project: the names and the order of places).
use Rattle.std.specs.Prelude.{ℕ, zero, suc, ◌≡◌, ◌+◌, ◌<◌, ◌==◌, ◌&&◌, ◌⊎◌, List, [], ◌∷◌, ◌++◌, flat_map, filter, Option, Some, None, Bool, true, false, slice_get}
use Rattle.std.specs.Ordering.{nat_cmp, is_lt, ordering_then}
use Rattle.std.specs.FinMap.{get, keys}
use Rattle.trace_types.specs.declared.slots.Slot.{Slot}
use Rattle.trace_types.specs.declared.slots.Slot.TheVariants.{Nothing, Strong, Weak, Dangling}
use Rattle.trace_types.specs.declared.slots.Holding.{Holding}
use Rattle.trace_types.specs.declared.slots.Holding.TheVariants as holding
use Rattle.trace_types.specs.declared.slots.Entry.{Entry}
use Rattle.trace_types.specs.declared.slots.Entry.TheVariants.{Alive, Husk}
use Rattle.ownership_model.specs.State.{State}
use Rattle.retention_model.specs.declared.place.Place.{Place}
use Rattle.retention_model.specs.declared.place.Place.TheVariants.{Handle, Cell, Field}

-- the slot of what a handle holds: a slot itself, or a field of a value
abbrev pub held_at : Option Holding → Option ℕ → Option Slot
held_at None i = None
held_at (Some (holding.Slot s)) None = Some s
held_at (Some (holding.Slot s)) (Some i) = None
held_at (Some (holding.Bare fields)) None = None
held_at (Some (holding.Bare fields)) (Some i) = slice_get fields i

-- the field of an object: one whose value is gone has none
abbrev pub field_at : Option Entry → ℕ → Option Slot
field_at None i = None
field_at (Some (Alive fields)) i = slice_get fields i
field_at (Some Husk) i = None

-- the slot at a place, if there is one
abbrev pub at : State → Place → Option Slot
at m (Handle h i) = held_at (get m.handles h) i
at m (Cell c) = get m.cells c
at m (Field o i) = field_at (get m.objects o) i

-- a place of a handle or a cell; the others are fields of objects
abbrev pub IsRoot : Place → Type 0
IsRoot (Handle h i) = Unit {0}
IsRoot (Cell c) = Unit {0}
IsRoot (Field o i) = ⊥

-- a place that is a field of the object
abbrev pub IsFieldOf : ℕ → Place → Type 0
IsFieldOf o (Handle h i) = ⊥
IsFieldOf o (Cell c) = ⊥
IsFieldOf o (Field p i) = p ≡ o

-- The order of places: handles before cells before fields, each by its numbers. Of one handle at most one kind of place is there, so
-- that the slot itself may stand before the fields.

-- of which of the three kinds it is
abbrev pub kind_of : Place → ℕ
kind_of (Handle h i) = 0
kind_of (Cell c) = 1
kind_of (Field o i) = 2

-- its handle, cell or object
abbrev pub owner_of : Place → ℕ
owner_of (Handle h i) = h
owner_of (Cell c) = c
owner_of (Field o i) = o

-- which field it is, behind the slot itself
abbrev pub rank_of : Place → ℕ
rank_of (Handle h None) = 0
rank_of (Handle h (Some i)) = i + 1
rank_of (Cell c) = 0
rank_of (Field o i) = i

-- the first stands before the second
abbrev pub Precedes : Place → Place → Type 0
Precedes p q =
    (kind_of p < kind_of q)
    ⊎ ((kind_of p ≡ kind_of q) × (owner_of p < owner_of q))
    ⊎ ((kind_of p ≡ kind_of q) × (owner_of p ≡ owner_of q) × (rank_of p < rank_of q))

-- the same, as an answer
abbrev pub stands_before : Place → Place → Bool
stands_before p q =
    is_lt (ordering_then (ordering_then (nat_cmp (kind_of p) (kind_of q)) (nat_cmp (owner_of p) (owner_of q))) (nat_cmp (rank_of p) (rank_of q)))

-- whether both are the same place
abbrev pub is_same_place : Place → Place → Bool
is_same_place p q = (kind_of p == kind_of q) && ((owner_of p == owner_of q) && (rank_of p == rank_of q))

-- the places of fields, the first of which has this index
abbrev pub places_from : (ℕ → Place) → ℕ → List Slot → List Place
places_from place i [] = []
places_from place i (s ∷ ss) = place i ∷ places_from place (i + 1) ss

-- the places of a handle
abbrev pub handle_places : ℕ → Option Holding → List Place
handle_places h None = []
handle_places h (Some (holding.Slot s)) = Handle h None ∷ []
handle_places h (Some (holding.Bare fields)) = places_from (λ i. Handle h (Some i)) 0 fields

-- the places of an object
abbrev pub object_places : ℕ → Option Entry → List Place
object_places o None = []
object_places o (Some (Alive fields)) = places_from (Field o) 0 fields
object_places o (Some Husk) = []

-- all places of a state, in their order
abbrev pub places_of : State → List Place
places_of m =
    flat_map (λ h. handle_places h (get m.handles h)) (keys m.handles)
    ++ flat_map (λ c. Cell c ∷ []) (keys m.cells)
    ++ flat_map (λ o. object_places o (get m.objects o)) (keys m.objects)

-- whether a slot names the object, strongly or weakly
abbrev pub names : ℕ → Option Slot → Bool
names o None = false
names o (Some Nothing) = false
names o (Some (Strong p)) = p == o
names o (Some (Weak p)) = p == o
names o (Some Dangling) = false

-- the places that hold this slot, in their order: those that hold an object (Strong), or keep its allocation alone (Weak)
abbrev pub places_with : (Option Slot → Bool) → State → List Place
places_with is m = filter (λ p. is (at m p)) (places_of m)
