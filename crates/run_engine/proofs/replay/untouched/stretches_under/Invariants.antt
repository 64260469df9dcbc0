use Rattle.std.proofs.Common.{◌≡◌, ◌+◌, length}
use Rattle.std.specs.Arc.{arc_value}
use Rattle.run_engine.specs.inner.Untouched.{AreOnWay}
use Rattle.run_engine.proofs.replay.untouched.stretches_under.Given as goal

abbrev pub invariant-loop-i : goal.invariant-loop-i
invariant-loop-i l = record {
  place : l.i ≡ l.index + length l.run;
  under : AreOnWay l.revision.segments.now (arc_value l.layer) l.holders l.index (arc_value l.layer).from l.run;
}
