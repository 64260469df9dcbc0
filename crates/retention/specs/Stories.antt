-- One operation more of a replay that keeps dates, losses and marks (profile of this project).
use Rattle.std.specs.Prelude.{ℕ, ◌≡◌, ◌++◌, List, flat_map, Bool, true}
use Rattle.trace_types.specs.Operation.{Operation}
use Rattle.trace_types.specs.declared.outcomes.Outcome.{Outcome}
use Rattle.ownership_model.specs.State.{State, nothing_held}
use Rattle.ownership_model.specs.Step.{step, AreNew, outcomes_from, end_from}
use Rattle.retention_model.specs.declared.place.Place.{Place}
use Rattle.retention_model.specs.declared.mark.Moved.{Moved}
use Rattle.retention_model.specs.Places.{at}
use Rattle.retention_model.specs.declared.mark.Marked.{Marked}
use Rattle.retention_model.specs.Since.{dated, since_from}
use Rattle.retention_model.specs.Turns.{AreMoves, marks_by, AreMarkedFrom}
use Rattle.leak_report.specs.Lives.{making, made_in, numbered, events_of}
use Rattle.retention.specs.Dates.{Tell}
use Rattle.retention.specs.Lists.{loss_of}
use Rattle.retention.specs.Losses.{AreLosses}
use Rattle.retention.specs.declared.moves.Loss.{Loss}
use Rattle.retention.specs.declared.dates.Dates.{Dates}
use Rattle.retention.specs.declared.story.Story.{Story}

-- the heap, the dates and what moved, after an operation: the dates tell of the new state where they told of the old one
pub record MovesTo (op : Operation) (m : State) (d : Dates) (n : State) (e : Dates) (xs : List Moved) : Type 0 where
  pub state : n ≡ (step m op).state
  pub dates : (since : Place → ℕ) → Tell d m since → Tell e n (λ p. dated (at m p) (at n p) (since p) op.id)
  pub moves : (since : Place → ℕ) → Tell d m since → AreMoves m n xs

-- what is noted of an operation with this number, at this position, its outcome, and what it moved
pub record IsNoted (id position : ℕ) (outcome : Outcome) (with_marks : Bool) (xs : List Moved) (s t : Story) : Type 0 where
  pub end : t.end ≡ s.end
  pub dates : t.dates ≡ s.dates
  pub made : t.made.items ≡ s.made.items ++ making outcome
  pub events : t.events.items ≡ s.events.items ++ numbered outcome.id outcome.events
  pub losses : t.losses.items ≡ s.losses.items ++ flat_map (loss_of id) xs
  pub marked : with_marks ≡ true → t.marked.items ≡ s.marked.items ++ marks_by position s.end xs outcome.events

-- a story that goes on with the operation at a position
pub record GoesOn (op : Operation) (position : ℕ) (with_marks : Bool) (s t : Story) : Type 0 where
  pub made : t.made.items ≡ s.made.items ++ making (step s.end op).outcome
  pub events : t.events.items ≡ s.events.items ++ numbered (step s.end op).outcome.id (step s.end op).outcome.events
  pub state : t.end ≡ (step s.end op).state
  pub dates : (since : Place → ℕ) → Tell s.dates s.end since → Tell t.dates t.end (λ p. dated (at s.end p) (at t.end p) (since p) op.id)
  pub moves : (since : Place → ℕ) → Tell s.dates s.end since
      → (xs : List Moved) × AreMoves s.end t.end xs × (t.losses.items ≡ s.losses.items ++ flat_map (loss_of op.id) xs)
      × (with_marks ≡ true → t.marked.items ≡ s.marked.items ++ marks_by position t.end xs (step s.end op).outcome.events)

-- a story under way: these operations are left of all, and the next of them stands at this position
pub record IsUnderWay (ops left : List Operation) (position : ℕ) (with_marks : Bool) (s : Story) : Type 0 where
  pub are_new : AreNew s.end left
  pub made : s.made.items ++ made_in (outcomes_from s.end left) ≡ made_in (outcomes_from nothing_held ops)
  pub events : s.events.items ++ events_of (outcomes_from s.end left) ≡ events_of (outcomes_from nothing_held ops)
  pub rest : end_from s.end left ≡ end_from nothing_held ops
  pub since : Place → ℕ
  pub dates : Tell s.dates s.end since
  pub dated : (p : Place) → since_from s.end left p (since p) ≡ since_from nothing_held ops p 0
  pub losses : (more : List Loss) → AreLosses s.end left more → AreLosses nothing_held ops (s.losses.items ++ more)
  pub marked : with_marks ≡ true → (more : List Marked) → AreMarkedFrom position s.end left more → AreMarkedFrom 0 nothing_held ops (s.marked.items ++ more)
