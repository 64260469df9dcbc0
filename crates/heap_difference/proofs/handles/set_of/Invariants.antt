use Rattle.std.proofs.Common.{◌≡◌, ℕ, take}
use Rattle.std.specs.Ordering.{nat_cmp}
use Rattle.std.specs.BTreeSet.{contains}
use Rattle.ownership_model.specs.Reach.{has}
use Rattle.heap_difference.proofs.handles.set_of.Given as goal

abbrev pub invariant-loop-number : goal.invariant-loop-number
invariant-loop-number l = (q : ℕ) → contains nat_cmp l.set q ≡ has q (take l.number-index l.number-items)
