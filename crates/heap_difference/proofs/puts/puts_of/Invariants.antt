use Rattle.std.proofs.Common.{take}
use Rattle.std.specs.Ordering.{nat_cmp}
use Rattle.std.specs.BTreeSet.{contains}
use Rattle.heap_difference.proofs.PuttingLemmas.{ArePutting}
use Rattle.heap_difference.proofs.puts.puts_of.Given as goal

abbrev pub invariant-loop-handle : goal.invariant-loop-handle
invariant-loop-handle l = ArePutting l.handles (take l.handle-index l.handle-items) l.heap (λ g. contains nat_cmp l.left g) l.puts.items
