use Rattle.std.proofs.Common.{◌≡◌, ◌++◌, drop, string_bytes}
use Rattle.retention_text.specs.Turns.{lines_from, life_lines}
use Rattle.retention_text.proofs.turns.push_life.Given as goal

abbrev pub invariant-loop-marked : goal.invariant-loop-marked
invariant-loop-marked l = string_bytes l.text ++ lines_from l.ops l.last (drop l.marked-index l.life) ≡ string_bytes l.fn.text ++ life_lines l.ops l.life
