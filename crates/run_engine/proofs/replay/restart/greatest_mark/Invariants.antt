use Rattle.std.proofs.Common.{◌+◌, ◌≤◌}
use Rattle.run_engine.proofs.RestartLemmas.{AreFirst}
use Rattle.run_engine.proofs.replay.restart.greatest_mark.Given as goal

abbrev pub invariant-loop-i : goal.invariant-loop-i
invariant-loop-i l = record { first : AreFirst l.revision.segments.now l.head l.i; within : l.i ≤ l.last + 1 }

abbrev pub decreases-loop-i : goal.decreases-loop-i
decreases-loop-i l = l.i
