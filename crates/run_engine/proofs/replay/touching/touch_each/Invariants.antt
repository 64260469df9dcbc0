use Rattle.std.proofs.Common.{◌≡◌, ◌+◌, length, take}
use Rattle.std.specs.Prelude.{IfSome, Some}
use Rattle.std.specs.Ordering.{nat_cmp}
use Rattle.std.specs.BTreeSet.{contains}
use Rattle.run_engine.specs.GivenUp.{name_at, names_at}
use Rattle.run_engine.specs.Segments.{trace_of}
use Rattle.run_engine.specs.inner.Onward.{begins, AreAnswered}
use Rattle.run_engine.proofs.replay.touching.touch_each.Given as goal

abbrev pub invariant-loop-i : goal.invariant-loop-i
invariant-loop-i l = record {
  place : l.at ≡ l.from + length (trace_of (take l.i l.segments));
  named : IfSome l.before (λ id. name_at l.ops.ops l.at ≡ Some id);
  answered : AreAnswered l.initial.shelf l.shelf (names_at l.ops.ops (begins l.from (take l.i l.segments))) (contains nat_cmp l.initial.answered) (contains nat_cmp l.answered);
}
