use Rattle.std.proofs.Common.{◌≡◌, length, take}
use Rattle.run_engine.specs.Segments.{trace_of}
use Rattle.run_engine.proofs.segments.walk.len_of.Given as goal

abbrev pub invariant-loop-segment : goal.invariant-loop-segment
invariant-loop-segment l = l.len ≡ length (trace_of (take l.segment-index l.segments))
