use Rattle.std.proofs.Common.{length}
use Rattle.trace_reader.proofs.PlainLemmas.{IsAfterElements}
use Rattle.trace_reader.proofs.plain.elements.elements.Given as goal

abbrev pub invariant-elements : goal.invariant-elements
invariant-elements l = IsAfterElements l.text l.found.items l.rest

abbrev pub decreases-elements : goal.decreases-elements
decreases-elements l = length l.rest
