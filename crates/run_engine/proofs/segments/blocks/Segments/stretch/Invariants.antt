use Rattle.std.proofs.Common.{◌≡◌, length, take}
use Rattle.std.specs.Prelude.{slice_range}
use Rattle.run_engine.specs.inner.Parts.{joined}
use Rattle.run_engine.proofs.segments.blocks.Segments.stretch.Given as goal

abbrev pub invariant-loop-block : goal.invariant-loop-block
invariant-loop-block l = record {
  all : l.all ≡ slice_range (joined (take l.block-index l.block-items)) l.from l.to;
  at : l.at ≡ length (joined (take l.block-index l.block-items));
}
