use Rattle.std.proofs.Common.{take}
use Rattle.std.specs.Ordering.{nat_cmp}
use Rattle.std.specs.BTreeSet.{contains}
use Rattle.heap_difference.proofs.SiftLemmas.{AreLeft}
use Rattle.heap_difference.proofs.handles.differing_handles.Given as goal

abbrev pub invariant-loop-handle : goal.invariant-loop-handle
invariant-loop-handle l = AreLeft l.handles (take l.handle-index l.handle-items) l.old l.new (λ q. contains nat_cmp l.differing q)
