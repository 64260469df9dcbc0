use Rattle.std.proofs.Common.{◌≡◌, ◌++◌, [], drop}
use Rattle.ownership_model.specs.State.{nothing_held, IsSound}
use Rattle.ownership_model.specs.Bounds.{IsBounded}
use Rattle.ownership_model.specs.Step.{outcomes_from, end_from, AreNew}
use Rattle.ownership_model.specs.Plain.{state_of}
use Rattle.ownership_model.proofs.plain.plain_replay.Given as goal

-- the outcomes so far and those of what is left are those of all
abbrev pub invariant-loop-op : goal.invariant-loop-op
invariant-loop-op l = record {
  sound : IsSound (state_of l.state) [];
  bounded : IsBounded (state_of l.state);
  are_new : AreNew (state_of l.state) (drop l.op-index l.op-items);
  told : l.outcomes.items ++ outcomes_from (state_of l.state) (drop l.op-index l.op-items) ≡ outcomes_from nothing_held l.fn.trace;
  rest : end_from (state_of l.state) (drop l.op-index l.op-items) ≡ end_from nothing_held l.fn.trace;
}
