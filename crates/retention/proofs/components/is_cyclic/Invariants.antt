use Rattle.std.proofs.Common.{◌≡◌, ℕ, ◌<◌, ◌≤◌, get_or}
use Rattle.std.specs.Prelude.{Some}
use Rattle.retention.specs.Graph.{start_at, holds}
use Rattle.retention.proofs.components.is_cyclic.Given as goal

abbrev pub invariant-loop-place : goal.invariant-loop-place
invariant-loop-place l = (p t : ℕ) → start_at l.graph l.index ≤ p → p < l.place → holds l.graph p ≡ Some t → get_or l.parts t 0 ≡ get_or l.parts l.index 0 → ⊥
