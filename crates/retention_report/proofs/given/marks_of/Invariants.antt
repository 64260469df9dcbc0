use Rattle.std.proofs.Common.{◌≡◌, ℕ, length, take, false}
use Rattle.std.specs.Prelude.{slice_index_or}
use Rattle.ownership_model.specs.Reach.{has}
use Rattle.retention_report.proofs.given.marks_of.Given as goal

abbrev pub invariant-loop-index : goal.invariant-loop-index
invariant-loop-index l = (length l.marks.items ≡ l.count) × ((i : ℕ) → slice_index_or l.marks.items i false ≡ has i (take l.index-index l.indices))
