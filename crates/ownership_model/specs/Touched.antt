-- Which objects an operation may have changed, as its outcome tells (profile of this project).
use Rattle.std.specs.Prelude.{ℕ, ◌≡◌, List, [], ◌∷◌, ◌++◌, map, flat_map, Option, Some, None, false}
use Rattle.std.specs.FinMap.{get}
use Rattle.trace_types.specs.declared.outcomes.Event.{Event}
use Rattle.trace_types.specs.declared.outcomes.Event.TheVariants as event
use Rattle.trace_types.specs.declared.outcomes.Counts.{Counts}
use Rattle.trace_types.specs.declared.outcomes.Outcome.{Outcome}
use Rattle.ownership_model.specs.State.{State}
use Rattle.ownership_model.specs.Reach.{has}

-- the object that an event tells of
abbrev pub event_object : Event → ℕ
event_object (event.Destroyed o) = o
event_object (event.Unwrapped o) = o
event_object (event.Moved o) = o
event_object (event.Freed o) = o

-- the object whose counts are told, if any are
abbrev pub counted : Option Counts → List ℕ
counted None = []
counted (Some c) = c.object ∷ []

-- the objects of one outcome: that of its own number, which it may make, those of its events, and that of its counts
abbrev pub touched_by : Outcome → List ℕ
touched_by x = x.id ∷ (map event_object x.events ++ counted x.counts)

-- the objects of several outcomes, in order
abbrev pub touched_in : List Outcome → List ℕ
touched_in xs = flat_map touched_by xs

-- outside the list the same stands in both states
abbrev pub AgreeOutside : List ℕ → State → State → Type 0
AgreeOutside os m n = (q : ℕ) → has q os ≡ false → get m.objects q ≡ get n.objects q
