use Rattle.std.proofs.Common.{◌≡◌, ◌++◌, take, string_bytes}
use Rattle.leak_report.specs.Text.{lives_text}
use Rattle.leak_report.proofs.closing_text.push_lives.Given as goal

abbrev pub invariant-loop-life : goal.invariant-loop-life
invariant-loop-life l = string_bytes l.text ≡ string_bytes l.initial.text ++ lives_text (take l.life-index l.lives)
