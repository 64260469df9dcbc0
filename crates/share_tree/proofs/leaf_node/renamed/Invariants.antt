use Rattle.std.proofs.Common.{◌≡◌, ℕ, ◌<◌, length, nat_eq, slice_index_or, if◌then◌else◌}
use Rattle.share_tree.proofs.leaf_node.renamed.Given as goal

abbrev pub invariant-loop-i : goal.invariant-loop-i
invariant-loop-i l = record {
  long : length l.renamed ≡ 16;
  each : (p : ℕ) → p < l.i → slice_index_or l.renamed p 255 ≡ (if nat_eq (slice_index_or l.order p 255) l.from then l.to else slice_index_or l.order p 255);
}
