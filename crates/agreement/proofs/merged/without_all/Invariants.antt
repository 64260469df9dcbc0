use Rattle.std.proofs.Common.{take}
use Rattle.agreement.proofs.MergedLemmas.{LeavesOut}
use Rattle.agreement.proofs.merged.without_all.Given as goal

abbrev pub invariant-loop-object : goal.invariant-loop-object
invariant-loop-object l = LeavesOut l.first (take l.object-index l.object-items) l.rest
