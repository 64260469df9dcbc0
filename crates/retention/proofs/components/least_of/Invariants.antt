use Rattle.std.proofs.Common.{◌≡◌, ℕ, ◌<◌, ◌≤◌, length, get_or}
use Rattle.retention.proofs.components.least_of.Given as goal

abbrev pub invariant-loop-member : goal.invariant-loop-member
invariant-loop-member l = record {
  one : (k : ℕ) × (k < length l.members) × (get_or l.members k 0 ≡ l.least);
  lowest : (k : ℕ) → k < l.member-index → l.least ≤ get_or l.members k 0;
}
