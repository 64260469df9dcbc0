use Rattle.std.proofs.Common.{◌-◌, ◌+◌, length, get_or}
use Rattle.retention.proofs.LayoutLemmas.{AreSourced, AreBeingSourced}
use Rattle.retention.proofs.layout.sources_of.Given as goal

abbrev pub invariant-loop-index : goal.invariant-loop-index
invariant-loop-index l = AreSourced l.starts l.sources.items l.index

abbrev pub invariant-fields : goal.invariant-fields
invariant-fields l = AreBeingSourced l.starts l.sources.items l.index

abbrev pub decreases-fields : goal.decreases-fields
decreases-fields l = get_or l.starts (l.index + 1) 0 - length l.sources.items
