use Rattle.std.proofs.Common.{◌≡◌, ℕ, true, false, length, take, get_or}
use Rattle.ownership_model.specs.Reach.{has}
use Rattle.retention.proofs.components.name_part.Given as goal

abbrev pub invariant-loop-member : goal.invariant-loop-member
invariant-loop-member l = record {
  here : (z : ℕ) → has z (take l.member-index l.members) ≡ true → get_or l.parts.items z 0 ≡ l.least;
  others : (z : ℕ) → has z (take l.member-index l.members) ≡ false → get_or l.parts.items z 0 ≡ get_or l.initial.parts.items z 0;
  long : length l.parts.items ≡ length l.initial.parts.items;
}
