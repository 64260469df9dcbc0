use Rattle.std.proofs.Common.{◌≡◌, ℕ, ◌<◌, None}
use Rattle.share_tree.specs.Digits.{child_of}
use Rattle.share_tree.proofs.node.has_no_children.Given as goal

abbrev pub invariant-loop-i : goal.invariant-loop-i
invariant-loop-i g l = (j : ℕ) → j < l.i → child_of l.children j ≡ None
