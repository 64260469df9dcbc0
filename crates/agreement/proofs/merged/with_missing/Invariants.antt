use Rattle.std.proofs.Common.{take}
use Rattle.agreement.proofs.MergedLemmas.{HasMissing}
use Rattle.agreement.proofs.merged.with_missing.Given as goal

abbrev pub invariant-loop-object : goal.invariant-loop-object
invariant-loop-object l = HasMissing l.first l.second (take l.object-index l.object-items) l.all
