use Rattle.std.proofs.Common.{◌<◌}
use Rattle.std.specs.List.{All}
use Rattle.retention.specs.Graph.{size}
use Rattle.retention.proofs.JoinSteps.{IsJoining}
use Rattle.retention.proofs.gather.join_sources.Given as goal

abbrev pub invariant-loop-place : goal.invariant-loop-place
invariant-loop-place l = record {
  joining : IsJoining l.graph l.member l.initial.members.items l.initial.marks.items l.place-index l.members.items l.marks.items;
  within : All (λ i. i < size l.graph) l.members.items;
}
