-- What workers have of jobs. A job is seen as the chunk that its replay is (profile of this project).
use Rattle.std.specs.Prelude.{ℕ, ◌≡◌, List, length, slice_get, Option, Some, All}
use Rattle.op_step.specs.Chunk.{Chunk}
use Rattle.chunk_workers.specs.declared.worker.Done.{Done}

-- the chunk is that of the job with this number
abbrev pub IsOfJob : List Chunk → Done → Type 0
IsOfJob jobs d = slice_get jobs d.job ≡ Some d.chunk

-- what one worker has: each chunk is its job's
pub record AllOfJobs (jobs : List Chunk) (done : List Done) : Type 0 where
  pub each : All (IsOfJob jobs) done

-- a place for each job, which has the job's chunk or none
pub record AreFound (jobs : List Chunk) (found : List (Option Chunk)) : Type 0 where
  pub all : length found ≡ length jobs
  pub own : (i : ℕ) (c : Chunk) → slice_get found i ≡ Some (Some c) → slice_get jobs i ≡ Some c
