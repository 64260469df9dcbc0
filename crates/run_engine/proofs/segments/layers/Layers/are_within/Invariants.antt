use Rattle.std.proofs.Common.{take}
use Rattle.run_engine.specs.inner.Layered.{AreWithin}
use Rattle.run_engine.proofs.segments.layers.Layers.are_within.Given as goal

abbrev pub invariant-loop-i : goal.invariant-loop-i
invariant-loop-i l = AreWithin (take l.i l.self) l.layer
