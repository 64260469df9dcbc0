use Rattle.std.proofs.Common.{◌≡◌, take, false}
use Rattle.std.specs.Ordering.{nat_cmp}
use Rattle.std.specs.BTreeSet.{contains}
use Rattle.heap_difference.specs.Sifts.{IsSifted}
use Rattle.heap_difference.proofs.handles.those_in.Given as goal

abbrev pub invariant-loop-number : goal.invariant-loop-number
invariant-loop-number l = IsSifted (λ q. contains nat_cmp l.set q ≡ false) (take l.number-index l.number-items) l.rest.items
