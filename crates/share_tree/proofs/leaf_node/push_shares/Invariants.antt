use Rattle.std.proofs.Common.{◌≡◌, ◌++◌, take}
use Rattle.share_tree.specs.LeafNodes.{values_of}
use Rattle.share_tree.proofs.leaf_node.push_shares.Given as goal

abbrev pub invariant-loop-leaf : goal.invariant-loop-leaf
invariant-loop-leaf g l = values_of l.leaves.items ≡ values_of l.initial.leaves.items ++ values_of (take l.leaf-index l.shared)
