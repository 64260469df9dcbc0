use Rattle.std.proofs.Common.{take}
use Rattle.std.specs.Ordering.{nat_cmp}
use Rattle.std.specs.BTreeSet.{contains}
use Rattle.agreement.proofs.GatheringLemmas.{IsRest}
use Rattle.agreement.proofs.gathering.unreached.Given as goal

abbrev pub invariant-loop-object : goal.invariant-loop-object
invariant-loop-object l = IsRest l.heap (λ o. contains nat_cmp l.reached o) (take l.object-index l.object-items) l.rest
