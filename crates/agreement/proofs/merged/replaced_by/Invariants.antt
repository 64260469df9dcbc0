use Rattle.std.proofs.Common.{take}
use Rattle.agreement.proofs.MergedLemmas.{IsReplaced}
use Rattle.agreement.proofs.merged.replaced_by.Given as goal

abbrev pub invariant-loop-object : goal.invariant-loop-object
invariant-loop-object l = IsReplaced l.first l.second (take l.object-index l.object-items) l.all
