use Rattle.std.proofs.Common.{◌≡◌, ◌++◌, take, drop}
use Rattle.ownership_model.specs.Step.{outcomes_from, end_from, AreNew}
use Rattle.ownership_model.specs.Alike.{Covers}
use Rattle.heap_difference.specs.Naming.{with_names}
use Rattle.op_step.specs.Told.{replay_keys}
use Rattle.op_step.specs.Meter.{raised}
use Rattle.op_step.proofs.replay.replay_told.Given as goal

-- the outcomes so far and those of what is left are those of all
abbrev pub invariant-loop-op : goal.invariant-loop-op
invariant-loop-op l = record {
  are_new : AreNew l.heap (drop l.op-index l.ops);
  told : l.outcomes.items ++ outcomes_from l.heap (drop l.op-index l.ops) ≡ outcomes_from l.fn.start l.ops;
  rest : end_from l.heap (drop l.op-index l.ops) ≡ end_from l.fn.start l.ops;
  counted : l.meter ≡ raised l.fn.meter l.op-index;
  keys : Covers (with_names l.keys.items (take l.op-index l.ops) l.outcomes.items ++ replay_keys l.heap (drop l.op-index l.ops)) (l.fn.keys.items ++ replay_keys l.fn.start l.ops);
}
