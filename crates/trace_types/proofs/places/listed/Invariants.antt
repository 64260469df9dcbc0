use Rattle.std.proofs.Common.{◌≡◌, ℕ, length, ◌≤◌, drop}
use Rattle.std.specs.Prelude.{◌==◌}
use Rattle.std.specs.Ordering.{nat_cmp}
use Rattle.std.specs.BTreeMap.{get}
use Rattle.std.specs.List.{position_from}
use Rattle.trace_types.proofs.places.listed.Given as goal

abbrev pub invariant-loop-place : goal.invariant-loop-place
invariant-loop-place l = (l.place ≤ length l.ops) × ((id : ℕ) → get nat_cmp l.places id ≡ position_from (λ op. op.id == id) l.place (drop l.place l.ops))

abbrev pub decreases-loop-place : goal.decreases-loop-place
decreases-loop-place l = l.place
