-- What edits do to stretches.
use Rattle.std.specs.Prelude.{◌≡◌, ℕ, ◌≤◌, List, ◌++◌, length, take, Option, option_to_list, slice_range}
use Rattle.trace_types.specs.Operation.{Operation}
use Rattle.ownership_model.specs.State.{nothing_held}
use Rattle.ownership_model.specs.Step.{end_from}
use Rattle.op_step.specs.Chunk.{Chunk}
use Rattle.run_engine.specs.declared.jobs.changed.Place.{Place}
use Rattle.run_engine.specs.declared.jobs.begins.Shift.{Shift}
use Rattle.run_engine.specs.declared.jobs.begins.Shift.TheVariants.{Up, Down, Nowhere}
use Rattle.run_engine.specs.Jobs.{raised_at, lowered_at, stretch_ops, BeginWith}

-- where a stretch begins then
abbrev pub shifted : ℕ → Shift → ℕ
shifted begin (Up place) = raised_at begin place
shifted begin (Down place) = lowered_at begin place
shifted begin Nowhere = begin

-- where a stretch stands in two traces: it begins at a checkpoint with these ones after it, and in the second trace elsewhere
pub record IsPlace (base ops : List Operation) (begin : ℕ → ℕ) (mark : ℕ) (marks : List ℕ) (place : Place) : Type 0 where
  pub base_order : place.base ≤ place.base_end
  pub base_within : place.base_end ≤ length base
  pub order : place.at ≤ place.end
  pub within : place.end ≤ length ops
  pub before : slice_range base place.base place.base_end ≡ stretch_ops (λ p. p) base mark marks
  pub after : slice_range ops place.at place.end ≡ stretch_ops begin ops mark marks

-- the job of a stretch, if it gives one
abbrev pub GivesJob : List Operation → List Operation → ℕ → Place → Option Chunk → Type 0
GivesJob base ops mark place job =
    (others : List Chunk) → BeginWith (end_from nothing_held (take mark base)) (slice_range base place.base place.base_end) (slice_range ops place.at place.end) others (option_to_list job ++ others)
