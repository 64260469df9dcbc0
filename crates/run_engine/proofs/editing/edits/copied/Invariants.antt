use Rattle.std.proofs.Common.{◌≡◌, ◌≤◌, ◌-◌, length, take}
use Rattle.run_engine.proofs.editing.edits.copied.Given as goal

abbrev pub invariant-loop-at : goal.invariant-loop-at
invariant-loop-at l = record { within : l.at ≤ length l.ops.ops; trace : l.trace ≡ take l.at l.ops.ops }

abbrev pub decreases-loop-at : goal.decreases-loop-at
decreases-loop-at l = length l.ops.ops - l.at
