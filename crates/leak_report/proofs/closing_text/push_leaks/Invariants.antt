use Rattle.std.proofs.Common.{◌≡◌, ◌++◌, take, string_bytes}
use Rattle.leak_report.specs.Text.{leaks_text}
use Rattle.leak_report.proofs.closing_text.push_leaks.Given as goal

abbrev pub invariant-loop-leak : goal.invariant-loop-leak
invariant-loop-leak l = string_bytes l.text ≡ string_bytes l.initial.text ++ leaks_text (take l.leak-index l.leaks)
