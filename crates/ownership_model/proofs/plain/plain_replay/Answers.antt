use Rattle.std.proofs.Common.{[], ◌++◌, sym, subst, List}
use Rattle.trace_types.specs.Operation.{Operation}
use Rattle.ownership_model.specs.State.{State, nothing_held, IsSound}
use Rattle.ownership_model.specs.Bounds.{IsBounded}
use Rattle.ownership_model.specs.Step.{AreNew, outcomes_from, end_from}
use Rattle.ownership_model.proofs.LimitLemmas.{nothing_bounded}
use Rattle.ownership_model.proofs.ReplayLemmas.{nothing_sound, distinct_new}
use Rattle.ownership_model.proofs.plain.plain_replay.Goals as goal

-- nothing is held as the trace begins
pub loop-op-init : goal.loop-op-init
loop-op-init c = record {
  sound = subst (λ (m : State). IsSound m []) (sym c.empty-state.ensures) nothing_sound;
  bounded = subst (λ (m : State). IsBounded m) (sym c.empty-state.ensures) nothing_bounded;
  are_new = subst (λ (m : State). AreNew m c.as_slice-op-items.result.now) (sym c.empty-state.ensures)
      (subst (λ (ops : List Operation). AreNew nothing_held ops) (sym c.as_slice-op-items.ensures.value) (distinct_new c.args.trace.now c.as_slice-op-items.ensures.is_trace.distinct));
  told = λ i. c.new-outcomes.ensures.items i ++ outcomes_from (c.empty-state.ensures i) (c.as_slice-op-items.ensures.value i);
  rest = λ i. end_from (c.empty-state.ensures i) (c.as_slice-op-items.ensures.value i);
}
