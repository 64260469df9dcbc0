use Rattle.std.proofs.Common.{◌≡◌, ◌≤◌, ◌-◌, [], length, replicate}
use Rattle.retention.proofs.layout.empty_lists.Given as goal

abbrev pub invariant-lists : goal.invariant-lists
invariant-lists l = (l.lists.items ≡ replicate (length l.lists.items) []) × (length l.lists.items ≤ l.count)

abbrev pub decreases-lists : goal.decreases-lists
decreases-lists l = l.count - length l.lists.items
