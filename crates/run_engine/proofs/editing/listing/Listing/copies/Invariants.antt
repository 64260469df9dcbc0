use Rattle.std.proofs.Common.{◌≡◌, ◌≤◌, ◌-◌}
use Rattle.std.specs.Prelude.{slice_range}
use Rattle.run_engine.proofs.editing.listing.Listing.copies.Given as goal

abbrev pub invariant-loop-at : goal.invariant-loop-at
invariant-loop-at l = record { from_there : l.from ≤ l.at; before_end : l.at ≤ l.to; copies : l.copies.items ≡ slice_range l.self.ops l.from l.at }

abbrev pub decreases-loop-at : goal.decreases-loop-at
decreases-loop-at l = l.to - l.at
