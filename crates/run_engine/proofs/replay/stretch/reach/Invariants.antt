use Rattle.std.proofs.Common.{◌≡◌, ℕ, ◌+◌, ◌-◌, ◌≤◌, [], take, drop, length}
use Rattle.std.specs.Prelude.{slice_range}
use Rattle.run_engine.specs.Segments.{trace_of, marks_from}
use Rattle.run_engine.proofs.StretchLemmas.{IsPartTo}
use Rattle.run_engine.proofs.replay.stretch.reach.Given as goal

abbrev pub invariant-loop-i : goal.invariant-loop-i
invariant-loop-i l = record {
  order : l.from ≤ l.i;
  long : length (trace_of (slice_range l.segments l.from l.i)) ≡ l.len;
  fits : l.len ≤ l.most;
  bare : (at : ℕ) → marks_from at (take (l.i + 1 - (l.from + 1)) (drop (l.from + 1) l.segments)) ≡ [];
  part : IsPartTo l.segments l.from l.most l.last;
}
