-- The stretches that a batch of edits changes (profile of this project).
use Rattle.std.specs.Prelude.{◌≡◌, ◌≢◌, ◌⊎◌, ℕ, ◌+◌, ◌-◌, List, [], ◌∷◌, length, take, Ok, Err, Result, slice_range, nat_lt, if◌then◌else◌}
use Rattle.std.specs.Option.{option_map_or}
use Rattle.trace_types.specs.Operation.{Operation}
use Rattle.trace_types.specs.Trace.{place_of}
use Rattle.trace_types.specs.declared.edits.Edit.{Edit}
use Rattle.trace_types.specs.declared.edits.Edit.TheVariants.{Insert, Remove, Change}
use Rattle.ownership_model.specs.State.{State, nothing_held}
use Rattle.ownership_model.specs.Step.{end_from, AreUnused}
use Rattle.op_step.specs.Chunk.{Chunk}
use Rattle.run_engine.specs.declared.editing.faults.Refusal.{Refusal}
use Rattle.run_engine.specs.Edited.{place_after, edited_one, edited_by}
use Rattle.run_engine.specs.RunView.{RunView}

-- where a stretch begins once an operation came in front of the one at a place: it belongs to the last stretch that begins at or before there
abbrev pub raised_at : ℕ → ℕ → ℕ
raised_at begin place = if nat_lt place begin then begin + 1 else begin

-- once the operation at a place is gone
abbrev pub lowered_at : ℕ → ℕ → ℕ
lowered_at begin place = if nat_lt place begin then begin - 1 else begin

-- where a stretch of these operations begins after an edit
abbrev pub begin_after : List Operation → Edit → ℕ → ℕ
begin_after ops (Insert after op) begin = option_map_or (raised_at begin) (place_after after ops) begin
begin_after ops (Remove id) begin = option_map_or (lowered_at begin) (place_of id ops) begin
begin_after ops (Change id op) begin = begin

-- the operations after an edit that isn't refused
abbrev pub made : List Operation → Result (List Operation) Refusal → List Operation
made ops (Ok next) = next
made ops (Err why) = ops

-- where a stretch begins after edits, from the index k on
abbrev pub begin_by : ℕ → List Operation → List Edit → ℕ → ℕ
begin_by k ops [] begin = begin
begin_by k ops (edit ∷ edits) begin = begin_by (k + 1) (made ops (edited_one k ops edit)) edits (begin_after ops edit begin)

-- where the stretch ends that begins at a checkpoint with these ones after it: where the next begins, or at the end
abbrev pub stretch_end : (ℕ → ℕ) → List ℕ → ℕ → ℕ
stretch_end begin [] end = end
stretch_end begin (next ∷ marks) end = begin next

-- the operations of that stretch
abbrev pub stretch_ops : (ℕ → ℕ) → List Operation → ℕ → List ℕ → List Operation
stretch_ops begin ops mark marks = slice_range ops (begin mark) (stretch_end begin marks (length ops))

-- a stretch gives a job where its operations are others than before, and no object of its start has the number of one
pub record IsWanted (start : State) (before ops : List Operation) : Type 0 where
  pub changed : ops ≢ before
  pub unused : AreUnused start ops

-- the job of a stretch, where it gives one, and then those of the others
abbrev pub BeginWith : State → List Operation → List Operation → List Chunk → List Chunk → Type 0
BeginWith start before ops others jobs = (IsWanted start before ops × (jobs ≡ record { start = start; ops = ops } ∷ others)) ⊎ ((IsWanted start before ops → ⊥) × (jobs ≡ others))

-- the jobs of the stretches that begin at these checkpoints of an old trace, in order, where in the new one they begin elsewhere
abbrev pub AreJobsAt : (ℕ → ℕ) → List Operation → List Operation → List ℕ → List Chunk → Type 0
AreJobsAt begin old new [] jobs = jobs ≡ []
AreJobsAt begin old new (mark ∷ marks) jobs =
    (others : List Chunk) × BeginWith (end_from nothing_held (take mark old)) (stretch_ops (λ p. p) old mark marks) (stretch_ops begin new mark marks) others jobs
    × AreJobsAt begin old new marks others

-- the jobs of a batch of edits: each stretch between neighbouring checkpoints of a run, and the one that begins at its end
abbrev pub AreJobsOf : RunView → List Edit → List Chunk → Type 0
AreJobsOf run batch jobs = (ops : List Operation) × (edited_by run.trace batch ≡ Ok ops) × AreJobsAt (begin_by 0 run.trace batch) run.trace ops run.marks jobs
