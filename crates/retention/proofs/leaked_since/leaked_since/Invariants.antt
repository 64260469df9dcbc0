use Rattle.std.proofs.Common.{◌≡◌, ◌≤◌, [], length, drop}
use Rattle.retention.specs.Graph.{size}
use Rattle.retention.specs.Dating.{IsClosed, AreDated}
use Rattle.retention.proofs.leaked_since.leaked_since.Given as goal

abbrev pub invariant-loop-at : goal.invariant-loop-at
invariant-loop-at l = record {
  within : l.at ≤ length l.losses;
  long : length l.since.items ≡ size l.graph;
  closed : IsClosed l.graph l.leaked l.since.items;
  empty : l.todo.items ≡ [];
  dated : AreDated l.graph l.leaked (drop l.at l.losses) l.since.items;
}

abbrev pub decreases-loop-at : goal.decreases-loop-at
decreases-loop-at l = l.at
