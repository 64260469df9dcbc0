use Rattle.std.proofs.Common.{◌≡◌, ℕ, ◌<◌}
use Rattle.share_tree.specs.Digits.{child_of}
use Rattle.share_tree.proofs.leaf_node.LeafNodeLevel.same.Given as goal

abbrev pub invariant-loop-i : goal.invariant-loop-i
invariant-loop-i g l = (k : ℕ) → k < l.i → child_of l.self k ≡ child_of l.other k
