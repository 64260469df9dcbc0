use Rattle.std.proofs.Common.{◌<◌, ◌+◌, ◌-◌, not, length}
use Rattle.std.specs.List.{All, count_by}
use Rattle.retention.specs.Graph.{size}
use Rattle.retention.specs.Paths.{Points}
use Rattle.retention.proofs.GatherSteps.{IsGathering}
use Rattle.retention.proofs.gather.gather.Given as goal

abbrev pub invariant-loop-at : goal.invariant-loop-at
invariant-loop-at l = record {
  gathering : IsGathering (Points l.graph) l.initial.members.items l.initial.marks.items l.at l.members.items l.marks.items;
  within : All (λ i. i < size l.graph) l.members.items;
}

abbrev pub decreases-loop-at : goal.decreases-loop-at
decreases-loop-at l = (count_by not l.marks.items + length l.members.items) - l.at
