use Rattle.std.proofs.Common.{ℕ, ◌≡◌, ◌+◌, ◌≤◌, length, slice_index}
use Rattle.retention.specs.RetainingSteps.{times}
use Rattle.retention.proofs.retained.Retained.restore.Given as goal

abbrev pub invariant-loop-target : goal.invariant-loop-target
invariant-loop-target l = record {
  long : length l.self.missing.items ≡ length l.initial.self.missing.items;
  each : (t : ℕ) → slice_index l.self.missing.items t + times t l.self.passed.items ≡ slice_index l.initial.self.missing.items t + times t l.initial.self.passed.items;
  fewer : (t : ℕ) → times t l.self.passed.items ≤ times t l.initial.self.passed.items;
}

abbrev pub decreases-loop-target : goal.decreases-loop-target
decreases-loop-target l = length l.self.passed.items
