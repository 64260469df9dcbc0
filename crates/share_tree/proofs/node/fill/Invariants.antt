use Rattle.std.proofs.Common.{◌≡◌, ℕ, ◌<◌, ◌≤◌, length, None}
use Rattle.share_tree.specs.Digits.{child_of, updated}
use Rattle.share_tree.proofs.node.fill.Given as goal

abbrev pub invariant-loop-i : goal.invariant-loop-i
invariant-loop-i g l = record {
  long : length l.node.children ≡ 16;
  shared : (j : ℕ) → j < l.i → child_of l.node.children j ≡ updated (child_of l.children) l.place None j;
  empty : (j : ℕ) → l.i ≤ j → child_of l.node.children j ≡ None;
}
