use Rattle.std.proofs.Common.{◌≡◌, ◌++◌, take}
use Rattle.ownership_model.specs.Reach.{all_cell_names}
use Rattle.object_heap.proofs.reach.push_cells.Given as goal

abbrev pub invariant-loop-cell : goal.invariant-loop-cell
invariant-loop-cell l = l.names.items ≡ l.initial.names.items ++ all_cell_names l.by l.heap (take l.cell-index l.cell-items)
