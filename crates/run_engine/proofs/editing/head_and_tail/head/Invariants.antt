use Rattle.std.proofs.Common.{◌≡◌, ◌≤◌, ◌-◌, length, take}
use Rattle.run_engine.proofs.editing.head_and_tail.head.Given as goal

abbrev pub invariant-loop-at : goal.invariant-loop-at
invariant-loop-at l = record { base : l.at ≤ length l.ops.base; within : l.at ≤ length l.ops.ops; same : take l.at l.ops.base ≡ take l.at l.ops.ops }

abbrev pub decreases-loop-at : goal.decreases-loop-at
decreases-loop-at l = l.few - l.at
