use Rattle.std.proofs.Common.{◌≡◌, ◌++◌, drop, string_bytes}
use Rattle.leak_report.specs.Lines.{lines_of}
use Rattle.leak_report.specs.Text.{lines_text}
use Rattle.leak_report.proofs.line_text.push_lines.Given as goal

abbrev pub invariant-loop-i : goal.invariant-loop-i
invariant-loop-i l = string_bytes l.text ++ lines_text (lines_of (drop l.i l.ops) (drop l.i l.outcomes)) ≡ string_bytes l.initial.text ++ lines_text (lines_of l.ops l.outcomes)
