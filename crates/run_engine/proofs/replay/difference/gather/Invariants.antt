use Rattle.heap_difference.specs.KeySets.{set_of}
use Rattle.run_engine.specs.inner.Difference.{HasGathered}
use Rattle.run_engine.proofs.replay.difference.gather.Given as goal

abbrev pub invariant-loop-i : goal.invariant-loop-i
invariant-loop-i l = HasGathered l.segments l.from l.i (set_of l.initial.keys.items) (set_of l.keys.items)
