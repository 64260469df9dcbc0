use Rattle.std.proofs.Common.{◌≡◌, ◌-◌, ◌≤◌, length, take, true}
use Rattle.std.specs.List.{list_all}
use Rattle.trace_reader.specs.Plain.{is_unescaped_byte}
use Rattle.trace_reader.proofs.plain.texts.unescaped_blocks.Given as goal

abbrev pub invariant-ends : goal.invariant-ends
invariant-ends l = (l.end ≤ length l.text) × (list_all is_unescaped_byte (take l.end l.text) ≡ true)

abbrev pub decreases-ends : goal.decreases-ends
decreases-ends l = length l.text - l.end
