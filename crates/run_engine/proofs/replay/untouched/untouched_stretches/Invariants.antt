use Rattle.run_engine.specs.inner.Divergence.{IsDivergence}
use Rattle.run_engine.specs.declared.replay.revision.Revision.{Revision}
use Rattle.run_engine.proofs.replay.untouched.untouched_stretches.Given as goal

abbrev pub invariant-loop-most : goal.invariant-loop-most
invariant-loop-most l = record {
  known : (r : Revision) → IsDivergence r l.initial.divergence → IsDivergence r l.divergence;
}

abbrev pub decreases-loop-most : goal.decreases-loop-most
decreases-loop-most l = l.most
