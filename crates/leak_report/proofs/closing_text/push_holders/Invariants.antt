use Rattle.std.proofs.Common.{◌≡◌, ◌++◌, take, string_bytes}
use Rattle.leak_report.specs.Text.{holders_text}
use Rattle.leak_report.proofs.closing_text.push_holders.Given as goal

abbrev pub invariant-loop-holder : goal.invariant-loop-holder
invariant-loop-holder l = string_bytes l.text ≡ string_bytes l.initial.text ++ holders_text (take l.holder-index l.holders)
