use Rattle.std.proofs.Common.{◌≡◌, ℕ, ◌+◌, ◌*◌, true, length}
use Rattle.std.specs.List.{sum}
use Rattle.retention.specs.Graph.{size}
use Rattle.retention.specs.Paths.{Points, marked, IsSearching, AreLeft}
use Rattle.retention.proofs.search.Search.visit.Given as goal

abbrev pub invariant-loop-last : goal.invariant-loop-last
invariant-loop-last l = record {
  searching : IsSearching (Points l.graph) (size l.graph) l.self.seen.items l.self.path.items l.self.order.items;
  left : AreLeft l.graph l.self.seen.items l.self.left.items;
  still : (x : ℕ) → marked l.initial.self.seen.items x ≡ true → marked l.self.seen.items x ≡ true;
}

abbrev pub decreases-loop-last : goal.decreases-loop-last
decreases-loop-last l = 2 * sum l.self.left.items + length l.self.path.items
