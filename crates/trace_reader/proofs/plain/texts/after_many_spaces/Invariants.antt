use Rattle.std.proofs.Common.{length}
use Rattle.trace_reader.specs.Plain.{IsAfterSpaces}
use Rattle.trace_reader.proofs.plain.texts.after_many_spaces.Given as goal

abbrev pub invariant-spaces : goal.invariant-spaces
invariant-spaces l = IsAfterSpaces l.text l.rest

abbrev pub decreases-spaces : goal.decreases-spaces
decreases-spaces l = length l.rest
