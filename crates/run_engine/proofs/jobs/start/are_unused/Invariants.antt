use Rattle.std.proofs.Common.{take}
use Rattle.ownership_model.specs.Step.{AreUnused}
use Rattle.run_engine.proofs.jobs.start.are_unused.Given as goal

abbrev pub invariant-loop-op : goal.invariant-loop-op
invariant-loop-op l = AreUnused l.heap (take l.op-index l.ops)
