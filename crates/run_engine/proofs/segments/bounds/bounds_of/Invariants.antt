use Rattle.std.proofs.Common.{take}
use Rattle.run_engine.specs.inner.Parts.{AreBetween}
use Rattle.run_engine.proofs.segments.bounds.bounds_of.Given as goal

abbrev pub invariant-loop-op : goal.invariant-loop-op
invariant-loop-op l = AreBetween l.bounds.least l.bounds.greatest (take l.op-index l.ops)
