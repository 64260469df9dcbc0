use Rattle.std.proofs.Common.{◌≡◌, ℕ, ◌<◌, [], true}
use Rattle.retention.specs.Graph.{size}
use Rattle.retention.specs.Paths.{Points, marked, IsSearching, AreLeft}
use Rattle.retention.proofs.search.leaving_order.Given as goal

abbrev pub invariant-loop-index : goal.invariant-loop-index
invariant-loop-index l = record {
  searching : IsSearching (Points l.graph) (size l.graph) l.search.seen.items l.search.path.items l.search.order.items;
  left : AreLeft l.graph l.search.seen.items l.search.left.items;
  path : l.search.path.items ≡ [];
  seen : (x : ℕ) → x < l.index → marked l.search.seen.items x ≡ true;
}
