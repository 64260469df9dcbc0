use Rattle.std.proofs.Common.{◌≡◌, take}
use Rattle.run_engine.proofs.segments.layers.Layers.and.Given as goal

abbrev pub invariant-loop-i : goal.invariant-loop-i
invariant-loop-i l = l.items.items ≡ take l.i l.self
