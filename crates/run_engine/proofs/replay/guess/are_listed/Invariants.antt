use Rattle.std.proofs.Common.{◌≡◌, ◌≤◌, ◌-◌, length, take, drop}
use Rattle.run_engine.proofs.replay.guess.are_listed.Given as goal

abbrev pub invariant-loop-i : goal.invariant-loop-i
invariant-loop-i l = record { within : l.i ≤ length l.others; same : take l.i l.others ≡ take l.i (drop l.at l.ops.ops) }

abbrev pub decreases-loop-i : goal.decreases-loop-i
decreases-loop-i l = length l.others - l.i
