use Rattle.std.proofs.Common.{take}
use Rattle.heap_difference.specs.Differences.{IsSameCell}
use Rattle.heap_difference.specs.Sifts.{IsSifted}
use Rattle.heap_difference.proofs.sifted.differing_cells.Given as goal

abbrev pub invariant-loop-cell : goal.invariant-loop-cell
invariant-loop-cell l = IsSifted (IsSameCell l.old l.new) (take l.cell-index l.cell-items) l.differing.items
