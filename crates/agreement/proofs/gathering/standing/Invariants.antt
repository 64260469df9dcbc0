use Rattle.std.proofs.Common.{take, false}
use Rattle.agreement.proofs.GatheringLemmas.{IsRest}
use Rattle.agreement.proofs.gathering.standing.Given as goal

abbrev pub invariant-loop-object : goal.invariant-loop-object
invariant-loop-object l = IsRest l.heap (λ o. false) (take l.object-index l.objects) l.rest
