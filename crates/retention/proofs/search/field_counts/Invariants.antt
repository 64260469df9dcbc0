use Rattle.std.proofs.Common.{◌≡◌, ℕ, ◌+◌, ◌<◌, length, get_or}
use Rattle.retention.specs.Graph.{start_at}
use Rattle.retention.proofs.search.field_counts.Given as goal

abbrev pub invariant-loop-index : goal.invariant-loop-index
invariant-loop-index l = record {
  long : length l.counts.items ≡ l.index;
  all : (x : ℕ) → x < l.index → start_at l.graph x + get_or l.counts.items x 0 ≡ start_at l.graph (x + 1);
}
