use Rattle.std.proofs.Common.{take}
use Rattle.heap_difference.specs.Differences.{IsSameObject}
use Rattle.heap_difference.specs.Sifts.{IsSifted}
use Rattle.heap_difference.proofs.sifted.differing_objects.Given as goal

abbrev pub invariant-loop-object : goal.invariant-loop-object
invariant-loop-object l = IsSifted (IsSameObject l.old l.new) (take l.object-index l.object-items) l.differing.items
