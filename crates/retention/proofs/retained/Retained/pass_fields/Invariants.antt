use Rattle.std.proofs.Common.{◌≡◌, ◌+◌, ◌<◌, ◌≤◌, length, slice_index}
use Rattle.retention.specs.RetainingSteps.{positives, IsPassing}
use Rattle.retention.proofs.retained.Retained.pass_fields.Given as goal

abbrev pub invariant-loop-place : goal.invariant-loop-place
invariant-loop-place l = record {
  front : IsPassing l.graph l.first l.at l.place l.self.missing.items l.self.members.items l.self.passed.items;
  there : l.at < length l.self.members.items;
  same : slice_index l.self.members.items l.at ≡ l.member;
  work : positives l.self.missing.items + length l.self.members.items ≤ positives l.initial.self.missing.items + length l.initial.self.members.items;
  longer : length l.initial.self.members.items ≤ length l.self.members.items;
}
