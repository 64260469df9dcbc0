use Rattle.run_engine.specs.inner.Divergence.{HasFollowed}
use Rattle.run_engine.proofs.replay.divergence.follow.Given as goal

abbrev pub invariant-loop-i : goal.invariant-loop-i
invariant-loop-i l = HasFollowed l.segments l.from l.i l.initial.suspects l.suspects
