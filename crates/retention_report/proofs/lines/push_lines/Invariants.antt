use Rattle.std.proofs.Common.{◌≡◌, ℕ, List, ◌++◌, take, string_bytes}
use Rattle.retention_report.specs.Explained.{AreLines}
use Rattle.retention_report.specs.Sources.{IsToldOf}
use Rattle.retention_report.proofs.lines.push_lines.Given as goal

abbrev pub invariant-loop-object : goal.invariant-loop-object
invariant-loop-object l = record {
  lines : (lines : List ℕ) × AreLines l.with_lives l.ops (take l.object-index l.objects) lines × (string_bytes l.text ≡ string_bytes l.initial.text ++ lines);
  told : IsToldOf l.with_lives l.ops l.told;
}
