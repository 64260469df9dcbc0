use Rattle.std.proofs.Common.{◌+◌, length}
use Rattle.std.specs.Ordering.{nat_cmp}
use Rattle.std.specs.FinMap.{keys}
use Rattle.std.specs.BTreeSet.{contains}
use Rattle.ownership_model.proofs.Searching.{unseen, IsVisiting}
use Rattle.object_heap.proofs.reach.reach.Given as goal

abbrev pub invariant-loop-object : goal.invariant-loop-object
invariant-loop-object l = IsVisiting l.by l.heap (λ o. contains nat_cmp l.seen o) l.todo.items

abbrev pub decreases-loop-object : goal.decreases-loop-object
decreases-loop-object l = unseen l.by l.heap (λ o. contains nat_cmp l.seen o) (keys l.heap.objects) + length l.todo.items
