use Rattle.std.proofs.Common.{◌≡◌, ◌≤◌, ◌-◌, length, drop}
use Rattle.run_engine.proofs.editing.head_and_tail.tail.Given as goal

abbrev pub invariant-loop-n : goal.invariant-loop-n
invariant-loop-n l = record { within : l.n ≤ l.few; same : drop (length l.ops.base - l.n) l.ops.base ≡ drop (length l.ops.ops - l.n) l.ops.ops }

abbrev pub decreases-loop-n : goal.decreases-loop-n
decreases-loop-n l = l.few - l.n
