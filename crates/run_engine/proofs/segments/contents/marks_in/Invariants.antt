use Rattle.std.proofs.Common.{◌≡◌, length, take}
use Rattle.run_engine.specs.Segments.{trace_of, marks_from}
use Rattle.run_engine.proofs.segments.contents.marks_in.Given as goal

abbrev pub invariant-loop-i : goal.invariant-loop-i
invariant-loop-i l = record {
  marks : l.marks ≡ marks_from 0 (take l.i l.segments);
  at : l.at ≡ length (trace_of (take l.i l.segments));
}
