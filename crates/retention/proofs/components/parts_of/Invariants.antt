use Rattle.std.proofs.Common.{◌≤◌, length}
use Rattle.retention.specs.Graph.{size}
use Rattle.retention.specs.Paths.{Points, ArePartsFrom}
use Rattle.retention.proofs.components.parts_of.Given as goal

abbrev pub invariant-loop-left : goal.invariant-loop-left
invariant-loop-left l = record {
  parts : ArePartsFrom (Points l.graph) (size l.graph) l.order.items l.left l.marks.items l.parts.items;
  within : l.left ≤ length l.order.items;
}

abbrev pub decreases-loop-left : goal.decreases-loop-left
decreases-loop-left l = l.left
