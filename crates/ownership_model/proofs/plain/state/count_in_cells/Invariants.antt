use Rattle.std.proofs.Common.{◌≡◌, ◌+◌, drop}
use Rattle.ownership_model.specs.Totals.{total_in}
use Rattle.ownership_model.specs.State.{names_alike}
use Rattle.ownership_model.proofs.plain.state.count_in_cells.Given as goal

-- the count so far and that of what is left is that of all
abbrev pub invariant-loop-cell : goal.invariant-loop-cell
invariant-loop-cell l = l.count + total_in (names_alike l.counted) (drop l.cell-index l.cells) ≡ total_in (names_alike l.fn.counted) l.fn.cells
