use Rattle.std.proofs.Common.{◌++◌, take}
use Rattle.std.specs.Prelude.{flat_map}
use Rattle.ownership_model.specs.Alike.{Covers}
use Rattle.op_step.specs.Told.{ended_key}
use Rattle.op_step.proofs.told.tell_ended.Given as goal

abbrev pub invariant-loop-change : goal.invariant-loop-change
invariant-loop-change l = Covers l.keys.items (l.fn.keys.items ++ flat_map ended_key (take l.change-index l.changes))
