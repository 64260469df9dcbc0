use Rattle.std.proofs.Common.{◌≡◌, ◌<◌, ◌⊎◌, ℕ, true, false, length}
use Rattle.std.specs.Prelude.{◌↔◌}
use Rattle.retention.specs.Graph.{size, alive_at}
use Rattle.retention.specs.Paths.{marked}
use Rattle.retention.specs.Pictured.{AreTheMarked}
use Rattle.retention.proofs.shown.push_of_interest.Given as goal

abbrev pub invariant-loop-index : goal.invariant-loop-index
invariant-loop-index l = AreTheMarked l.near.items l.shown.items × (length l.shown.items ≡ size l.graph)
    × ((i : ℕ) → (marked l.shown.items i ≡ true) ↔ ((i < l.index) × ((marked l.leaked i ≡ true) ⊎ (alive_at l.graph i ≡ false))))
