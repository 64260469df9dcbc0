use Rattle.std.proofs.Common.{◌≡◌, drop}
use Rattle.run_engine.specs.inner.Layered.{with_all, AreLaid}
use Rattle.run_engine.proofs.segments.layers.Layers.laid.Given as goal

abbrev pub invariant-loop-i : goal.invariant-loop-i
invariant-loop-i l = record {
  whole : with_all (drop l.i l.self) l.laid ≡ with_all l.self l.fn.heap;
  may : AreLaid (drop l.i l.self) l.laid;
}
