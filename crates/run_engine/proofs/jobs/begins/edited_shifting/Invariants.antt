use Rattle.std.proofs.Common.{◌≡◌, ℕ, drop, length}
use Rattle.std.specs.Prelude.{fold}
use Rattle.trace_types.specs.Trace.{IsTrace}
use Rattle.run_engine.specs.Edited.{edits_from}
use Rattle.run_engine.specs.Jobs.{begin_by}
use Rattle.run_engine.specs.inner.Shifts.{shifted}
use Rattle.run_engine.proofs.jobs.begins.edited_shifting.Given as goal

abbrev pub invariant-loop-i : goal.invariant-loop-i
invariant-loop-i l = record {
  edits : edits_from 0 l.initial.ops.ops l.batch ≡ edits_from l.i l.ops.ops (drop l.i l.batch);
  base : l.ops.base ≡ l.initial.ops.base;
  trace : IsTrace l.ops.ops;
  moved : (begin : ℕ) → begin_by 0 l.initial.ops.ops l.batch begin ≡ begin_by l.i l.ops.ops (drop l.i l.batch) (fold shifted begin l.shifts.items);
  many : length l.shifts.items ≡ l.i;
}
