use Rattle.std.proofs.Common.{rules}
use Rattle.run_engine.proofs.LayeredLemmas.{none-laid}
use Rattle.run_engine.proofs.segments.segment.Segment.of.Goals as goal

pub invariant_of-result : goal.invariant_of-result
invariant_of-result c = (
  search rules,
  search rules,
  rw c.nothing.ensures tt,
  rw c.nothing.ensures (none-laid _),
  tt,
)
