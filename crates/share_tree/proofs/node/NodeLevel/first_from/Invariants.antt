use Rattle.std.proofs.Common.{◌*◌}
use Rattle.share_tree.specs.Digits.{child_of, node_at}
use Rattle.share_tree.specs.Walk.{IsNowhereFrom}
use Rattle.share_tree.proofs.node.NodeLevel.first_from.Given as goal

abbrev pub invariant-loop-i : goal.invariant-loop-i
invariant-loop-i g l = IsNowhereFrom (node_at g.C.Level.at g.C.Level.SPAN (child_of l.self.children)) l.key (l.i * g.C.Level.SPAN)
