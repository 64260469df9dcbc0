use Rattle.std.proofs.Common.{◌≡◌, drop}
use Rattle.trace_types.specs.Trace.{IsTrace}
use Rattle.run_engine.specs.Edited.{edits_from}
use Rattle.run_engine.proofs.editing.edits.edited.Given as goal

abbrev pub invariant-loop-i : goal.invariant-loop-i
invariant-loop-i l = record {
  edits : edits_from 0 l.initial.ops.ops l.batch ≡ edits_from l.i l.ops.ops (drop l.i l.batch);
  base : l.ops.base ≡ l.initial.ops.base;
  trace : IsTrace l.ops.ops;
}
