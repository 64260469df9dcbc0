use Rattle.std.proofs.Common.{◌≡◌, ◌≤◌, length, take}
use Rattle.run_engine.specs.Segments.{trace_of}
use Rattle.run_engine.proofs.segments.walk.last_in.Given as goal

abbrev pub invariant-loop-i : goal.invariant-loop-i
invariant-loop-i l = record { place : length (trace_of (take l.i l.segments)) ≡ l.at; before : l.at ≤ l.position }
