use Rattle.std.proofs.Common.{List, ◌++◌, drop}
use Rattle.std.specs.Prelude.{fold}
use Rattle.op_step.specs.Chunk.{Chunk}
use Rattle.run_engine.specs.Segments.{trace_of, all_marks}
use Rattle.run_engine.specs.Jobs.{AreJobsAt}
use Rattle.run_engine.specs.inner.Shifts.{shifted}
use Rattle.run_engine.proofs.jobs.changed.changed.Given as goal

abbrev pub invariant-loop-i : goal.invariant-loop-i
invariant-loop-i l = (more : List Chunk) → AreJobsAt (λ begin. fold shifted begin l.shifts) (trace_of l.segments) l.ops.ops (drop l.i (all_marks l.segments)) more
    → AreJobsAt (λ begin. fold shifted begin l.shifts) (trace_of l.segments) l.ops.ops (all_marks l.segments) (l.jobs.items ++ more)
