use Rattle.std.proofs.Common.{◌≡◌, ◌++◌}
use Rattle.share_tree.specs.Digits.{child_of}
use Rattle.share_tree.specs.Entries.{keys_from, moved}
use Rattle.share_tree.proofs.leaf_node.LeafNodeLevel.push_keys.Given as goal

abbrev pub invariant-loop-i : goal.invariant-loop-i
invariant-loop-i g l = l.keys.items ≡ l.initial.keys.items ++ keys_from (moved (child_of l.self) l.base) l.base l.i
