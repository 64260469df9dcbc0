use Rattle.std.proofs.Common.{◌≡◌, ℕ, ◌<◌, true, false, length, get_or}
use Rattle.std.specs.Prelude.{◌↔◌}
use Rattle.retention.specs.Components.{IsCyclic}
use Rattle.retention.proofs.cycles.marks_of.Given as goal

abbrev pub invariant-loop-index : goal.invariant-loop-index
invariant-loop-index l = (length l.marks.items ≡ l.index) × ((i : ℕ) → i < l.index → (get_or l.marks.items i false ≡ true) ↔ IsCyclic l.graph l.leaked i)
