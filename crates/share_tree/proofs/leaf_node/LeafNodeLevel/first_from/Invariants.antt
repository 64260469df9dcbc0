use Rattle.share_tree.specs.Digits.{child_of}
use Rattle.share_tree.specs.Walk.{IsNowhereFrom}
use Rattle.share_tree.proofs.leaf_node.LeafNodeLevel.first_from.Given as goal

abbrev pub invariant-loop-i : goal.invariant-loop-i
invariant-loop-i g l = IsNowhereFrom (child_of l.self) l.key l.i
