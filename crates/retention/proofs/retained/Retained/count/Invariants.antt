use Rattle.std.proofs.Common.{◌+◌, ◌-◌, ◌≤◌, length}
use Rattle.retention.specs.RetainingSteps.{positives, IsRetaining}
use Rattle.retention.proofs.retained.Retained.count.Given as goal

abbrev pub invariant-loop-at : goal.invariant-loop-at
invariant-loop-at l = record {
  front : IsRetaining l.graph l.index l.at l.self.missing.items l.self.members.items l.self.passed.items;
  within : l.at ≤ length l.self.members.items;
}

abbrev pub decreases-loop-at : goal.decreases-loop-at
decreases-loop-at l = positives l.self.missing.items + length l.self.members.items - l.at
