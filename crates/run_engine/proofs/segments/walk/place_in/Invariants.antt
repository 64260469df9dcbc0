use Rattle.std.proofs.Common.{◌≡◌, length, take, drop}
use Rattle.std.specs.Prelude.{◌==◌}
use Rattle.std.specs.List.{position_from}
use Rattle.trace_types.specs.Trace.{place_of}
use Rattle.run_engine.specs.Segments.{trace_of}
use Rattle.run_engine.proofs.segments.walk.place_in.Given as goal

abbrev pub invariant-loop-segment : goal.invariant-loop-segment
invariant-loop-segment l = record {
  at : l.at ≡ length (trace_of (take l.segment-index l.segments));
  place : place_of l.id (trace_of l.segments) ≡ position_from (λ op. op.id == l.id) l.at (trace_of (drop l.segment-index l.segments));
}
