use Rattle.retention.proofs.RetainingLemmas.{AreCounted}
use Rattle.retention.proofs.retained.Retained.new.Given as goal

abbrev pub invariant-loop-place : goal.invariant-loop-place
invariant-loop-place l = AreCounted l.graph l.place l.missing.items
