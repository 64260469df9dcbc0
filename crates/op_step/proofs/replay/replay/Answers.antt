use Rattle.std.proofs.Common.{sym, subst, List}
use Rattle.trace_types.specs.Operation.{Operation}
use Rattle.ownership_model.specs.State.{State, nothing_held}
use Rattle.ownership_model.specs.Step.{AreNew}
use Rattle.ownership_model.proofs.LawsHold.{soundness}
use Rattle.op_step.proofs.replay.replay.Goals as goal

pub replay_from-requires : goal.replay_from-requires
replay_from-requires c =
    subst (λ (m : State). AreNew m c.as_slice.result.now) (sym c.empty.ensures)
    (subst (λ (ops : List Operation). AreNew nothing_held ops) (sym c.as_slice.ensures.value) (soundness.are_new c.args.trace.now c.as_slice.ensures.is_trace.distinct))
