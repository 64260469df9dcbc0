use Rattle.std.proofs.Common.{◌≡◌, map, take}
use Rattle.run_engine.specs.inner.Parts.{joined}
use Rattle.run_engine.specs.inner.Exchanged.{exchanged}
use Rattle.run_engine.proofs.segments.blocks.Segments.exchanged.Given as goal

abbrev pub invariant-loop-block : goal.invariant-loop-block
invariant-loop-block l = l.all ≡ map (exchanged l.remains) (joined (take l.block-index l.block-items))
