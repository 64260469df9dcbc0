use Rattle.std.proofs.Common.{◌≡◌, take}
use Rattle.run_engine.specs.Segments.{outcomes_in}
use Rattle.run_engine.proofs.segments.contents.outcomes_in.Given as goal

abbrev pub invariant-loop-i : goal.invariant-loop-i
invariant-loop-i l = l.all ≡ outcomes_in (take l.i l.segments)
