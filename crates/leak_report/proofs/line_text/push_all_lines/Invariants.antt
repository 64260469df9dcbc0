use Rattle.std.proofs.Common.{◌≡◌, ◌++◌, take, string_bytes}
use Rattle.trace_types.specs.Stretches.{ops_of, outcomes_of}
use Rattle.leak_report.specs.Lines.{lines_of}
use Rattle.leak_report.specs.Text.{lines_text}
use Rattle.leak_report.proofs.line_text.push_all_lines.Given as goal

abbrev pub invariant-loop-stretch : goal.invariant-loop-stretch
invariant-loop-stretch l =
    string_bytes l.text ≡ string_bytes l.initial.text ++ lines_text (lines_of (ops_of (take l.stretch-index l.stretches)) (outcomes_of (take l.stretch-index l.stretches)))
