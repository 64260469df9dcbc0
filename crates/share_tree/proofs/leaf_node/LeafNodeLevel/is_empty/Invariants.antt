use Rattle.std.proofs.Common.{◌≡◌, ℕ, ◌<◌, None}
use Rattle.share_tree.specs.Digits.{child_of}
use Rattle.share_tree.proofs.leaf_node.LeafNodeLevel.is_empty.Given as goal

abbrev pub invariant-loop-i : goal.invariant-loop-i
invariant-loop-i g l = (k : ℕ) → k < l.i → child_of l.self k ≡ None
