use Rattle.std.proofs.Common.{sym, subst}
use Rattle.ownership_model.specs.State.{State}
use Rattle.ownership_model.specs.Step.{AreUnused}
use Rattle.ownership_model.proofs.LawsHold.{soundness}
use Rattle.agreement_tests.proofs.joints.remember.Goals as goal

-- nothing stands where nothing is held
pub run-requires-clause-unused : goal.run-requires-clause-unused
run-requires-clause-unused c =
    subst (λ (m : State). AreUnused m c.as_slice.result.now) (sym c.empty-nothing.ensures) (soundness.unused c.as_slice.result.now)
