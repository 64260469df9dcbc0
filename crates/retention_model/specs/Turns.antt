-- The life of an object, operation by operation: each that changed which slots at which places name it, or what stands for it
-- (profile of this project).
use Rattle.std.specs.Prelude.{ℕ, ◌≡◌, ◌+◌, ◌==◌, List, [], ◌∷◌, ◌++◌, map, flat_map, filter, Option, Some, None, Bool, true, false, if◌then◌else◌, IsSortedBy}
use Rattle.trace_types.specs.declared.slots.Slot.{Slot}
use Rattle.trace_types.specs.declared.slots.Slot.TheVariants.{Nothing, Strong, Weak, Dangling}
use Rattle.trace_types.specs.declared.outcomes.Event.{Event}
use Rattle.trace_types.specs.Operation.{Operation}
use Rattle.ownership_model.specs.State.{State, strong, weak}
use Rattle.ownership_model.specs.Step.{step}
use Rattle.ownership_model.specs.Touched.{event_object}
use Rattle.retention_model.specs.declared.place.Place.{Place}
use Rattle.retention_model.specs.declared.mark.Moved.{Moved}
use Rattle.retention_model.specs.declared.mark.Mark.{Mark}
use Rattle.retention_model.specs.declared.mark.Mark.TheVariants.{Lost, Gained, Ended}
use Rattle.retention_model.specs.declared.mark.Marked.{Marked}
use Rattle.retention_model.specs.Places.{at, stands_before, is_same_place}
use Rattle.retention_model.specs.Since.{is_same_slot}

-- What an operation moved.

-- a place that isn't there holds nothing
abbrev pub or_nothing : Option Slot → Slot
or_nothing None = Nothing
or_nothing (Some s) = s

-- the slot at a place
abbrev pub slot_at : State → Place → Slot
slot_at m p = or_nothing (at m p)

-- what moved at one place: nothing, where both are the same slot
abbrev pub moved_if : Place → (before after : Slot) → List Moved
moved_if p before after = if is_same_slot before after then [] else record { place = p; before = before; after = after } ∷ []

-- what moved at this place, of a list
abbrev pub at_place : Place → List Moved → List Moved
at_place p xs = filter (λ x. is_same_place x.place p) xs

-- all that moved between two states, once each, in the order of places
pub record AreMoves (m n : State) (xs : List Moved) : Type 0 where
  pub each : (p : Place) → at_place p xs ≡ moved_if p (slot_at m p) (slot_at n p)
  pub in_order : IsSortedBy (λ x y. stands_before x.place y.place) xs

-- What that is to the objects that the slots name.

-- whether the slot keeps no value
abbrev pub is_weak_slot : Slot → Bool
is_weak_slot Nothing = false
is_weak_slot (Strong o) = false
is_weak_slot (Weak o) = true
is_weak_slot Dangling = true

-- the mark of the object that a slot names, where it names one
abbrev pub if_named : Slot → (ℕ → Marked) → List Marked
if_named Nothing f = []
if_named (Strong o) f = f o ∷ []
if_named (Weak o) f = f o ∷ []
if_named Dangling f = []

-- an operation stands at this position of the trace, from 0, and leaves the state n
module _ (position : ℕ) (n : State) where
  -- a mark of the object, with its counts then
  abbrev pub marked : Mark → ℕ → Marked
  marked mark o = record { object = o; position = position; strong = strong n [] o; weak = weak n [] o; mark = mark }

  -- the place no longer holds the object that it held
  abbrev pub lost_mark : Moved → List Marked
  lost_mark x = if_named x.before (marked (Lost x.place (is_weak_slot x.before)))

  -- the place holds the object from now on
  abbrev pub gained_mark : Moved → List Marked
  gained_mark x = if_named x.after (marked (Gained x.place (is_weak_slot x.after)))

  -- the object came to an end
  abbrev pub ended_mark : Event → Marked
  ended_mark e = marked (Ended e) (event_object e)

  -- all marks of the operation: what was lost, what was gained, and its events
  abbrev pub marks_by : List Moved → List Event → List Marked
  marks_by xs es = flat_map lost_mark xs ++ (flat_map gained_mark xs ++ map ended_mark es)

-- the marks of operations, the first of which stands at this position of the trace
abbrev pub AreMarkedFrom : ℕ → State → List Operation → List Marked → Type 0
AreMarkedFrom position m [] ms = ms ≡ []
AreMarkedFrom position m (op ∷ ops) ms =
    (xs : List Moved) × (later : List Marked) × AreMoves m (step m op).state xs × AreMarkedFrom (position + 1) (step m op).state ops later
    × (ms ≡ marks_by position (step m op).state xs (step m op).outcome.events ++ later)

-- the marks of all operations of a trace
abbrev pub AreMarked : State → List Operation → List Marked → Type 0
AreMarked m ops ms = AreMarkedFrom 0 m ops ms

-- those of an object: its life
abbrev pub marks_of : ℕ → List Marked → List Marked
marks_of o ms = filter (λ x. x.object == o) ms
