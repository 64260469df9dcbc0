use Rattle.std.proofs.Common.{◌-◌, ◌≤◌}
use Rattle.run_engine.proofs.replay.converge.next_start.Given as goal

abbrev pub invariant-loop-cut : goal.invariant-loop-cut
invariant-loop-cut l = record { no_less : l.at ≤ l.cut; within : l.cut ≤ l.limits.to }

abbrev pub decreases-loop-cut : goal.decreases-loop-cut
decreases-loop-cut l = l.«open» - l.cut
