use Rattle.std.proofs.Common.{◌≡◌, ◌+◌, ◌<◌, ◌++◌, length}
use Rattle.std.specs.Arc.{arc_value}
use Rattle.run_engine.specs.inner.Untouched.{IsPartUnder, IsPartOnWay}
use Rattle.run_engine.proofs.replay.parts.part_under.Given as goal

abbrev pub invariant-loop-i : goal.invariant-loop-i
invariant-loop-i l = record {
  place : l.i ≡ l.index + length (l.done ++ l.open);
  some : 0 < length (l.done ++ l.open);
  part : IsPartUnder l.revision.segments.now (arc_value l.layer) l.index (arc_value l.layer).from l.done;
  whole : IsPartOnWay l.revision.segments.now (arc_value l.layer) l.holders l.index (arc_value l.layer).from (l.done ++ l.open);
}
