use Rattle.std.proofs.Common.{◌≡◌, ◌++◌}
use Rattle.run_engine.specs.inner.Parts.{joined}
use Rattle.run_engine.proofs.segments.blocks.Segments.append.Given as goal

abbrev pub invariant-loop-block : goal.invariant-loop-block
invariant-loop-block l = l.all ≡ l.fn.self ++ joined l.yielded
