use Rattle.std.proofs.Common.{◌≡◌, length}
use Rattle.std.specs.Prelude.{filter, not}
use Rattle.std.specs.Ordering.{nat_cmp}
use Rattle.std.specs.BTreeSet.{contains}
use Rattle.object_heap.specs.Links.{under}
use Rattle.heap_difference.proofs.ScopeLemmas.{from_here}
use Rattle.heap_difference.proofs.scopes.first_under.Given as goal

abbrev pub invariant-loop-at : goal.invariant-loop-at
invariant-loop-at l = filter (λ g. not (contains nat_cmp l.set g)) (under l.handle l.heap.scopes) ≡ filter (λ g. not (contains nat_cmp l.set g)) (from_here l.heap.scopes l.at)

abbrev pub decreases-loop-at : goal.decreases-loop-at
decreases-loop-at l = length (from_here l.heap.scopes l.at)
