use Rattle.std.proofs.Common.{◌≡◌, take}
use Rattle.trace_types.specs.Stretches.{outcomes_of}
use Rattle.trace_types.specs.Stretches as lent
use Rattle.run_engine.specs.Segments.{trace_of, outcomes_in}
use Rattle.run_engine.proofs.segments.contents.stretches_in.Given as goal

abbrev pub invariant-loop-i : goal.invariant-loop-i
invariant-loop-i l = record {
  ops : lent.ops_of l.stretches.items ≡ trace_of (take l.i l.segments);
  outcomes : outcomes_of l.stretches.items ≡ outcomes_in (take l.i l.segments);
}
