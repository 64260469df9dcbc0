use Rattle.std.proofs.Common.{◌≡◌, ℕ, ◌<◌, length, take, get_or}
use Rattle.std.specs.Prelude.{◌==◌}
use Rattle.std.specs.List.{count_by}
use Rattle.retention.proofs.cycles.sizes_of.Given as goal

abbrev pub invariant-loop-part : goal.invariant-loop-part
invariant-loop-part l = (length l.sizes.items ≡ length l.parts) × ((i : ℕ) → i < length l.parts → get_or l.sizes.items i 0 ≡ count_by (λ part. part == i) (take l.part-index l.parts))
