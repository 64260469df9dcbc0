use Rattle.retention.proofs.LayoutLemmas.{AreHeldTo}
use Rattle.retention.proofs.layout.holders_of.Given as goal

abbrev pub invariant-loop-place : goal.invariant-loop-place
invariant-loop-place l = AreHeldTo l.objects l.targets l.holders.items l.place
