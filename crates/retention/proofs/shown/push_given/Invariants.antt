use Rattle.std.proofs.Common.{◌≡◌, ℕ, length, take}
use Rattle.ownership_model.specs.Reach.{has}
use Rattle.retention.specs.Paths.{marked}
use Rattle.retention.specs.Pictured.{AreTheMarked}
use Rattle.retention.proofs.shown.push_given.Given as goal

abbrev pub invariant-loop-index : goal.invariant-loop-index
invariant-loop-index l = AreTheMarked l.near.items l.shown.items × (length l.shown.items ≡ length l.initial.shown.items) × ((i : ℕ) → marked l.shown.items i ≡ has i (take l.index-index l.given))
