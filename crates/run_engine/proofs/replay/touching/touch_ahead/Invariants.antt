use Rattle.std.proofs.Common.{◌≡◌, ◌-◌, ◌≤◌, ◌<◌, ◌%◌}
use Rattle.std.specs.Ordering.{nat_cmp}
use Rattle.std.specs.BTreeSet.{contains}
use Rattle.run_engine.specs.GivenUp.{names_at}
use Rattle.run_engine.specs.inner.Onward.{cuts, AreAnswered}
use Rattle.run_engine.proofs.replay.touching.touch_ahead.Given as goal

abbrev pub invariant-loop-at : goal.invariant-loop-at
invariant-loop-at l = record {
  behind : l.from ≤ l.at;
  before : l.at ≤ l.to;
  aligned : l.at < l.to → (l.at - l.from) % 64 ≡ 0;
  answered : AreAnswered l.initial.shelf l.shelf (names_at l.ops.ops (cuts l.from l.at)) (contains nat_cmp l.initial.answered) (contains nat_cmp l.answered);
}

abbrev pub decreases-loop-at : goal.decreases-loop-at
decreases-loop-at l = l.to - l.at
