use Rattle.std.proofs.Common.{◌≡◌, ◌++◌, take, string_bytes}
use Rattle.leak_report.specs.Text.{husks_text}
use Rattle.leak_report.proofs.closing_text.push_husks.Given as goal

abbrev pub invariant-loop-husk : goal.invariant-loop-husk
invariant-loop-husk l = string_bytes l.text ≡ string_bytes l.initial.text ++ husks_text (take l.husk-index l.husks)
