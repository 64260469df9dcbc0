use Rattle.std.proofs.Common.{◌≡◌, take}
use Rattle.run_engine.specs.inner.Blocks.{standing}
use Rattle.run_engine.proofs.segments.block.left_of.Given as goal

abbrev pub invariant-loop-i : goal.invariant-loop-i
invariant-loop-i l = l.all.items ≡ take l.i (standing l.given_up l.from l.len l.segments)
