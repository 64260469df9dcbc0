use Rattle.std.proofs.Common.{◌≡◌, ◌+◌, ◌-◌, ◌*◌, ◌%◌, ◌<◌, length}
use Rattle.run_engine.specs.Marks.{multiples_below, load_marks}
use Rattle.run_engine.specs.GivenUp.{names_at, IsTouched}
use Rattle.run_engine.specs.inner.Loaded.{loaded_view}
use Rattle.run_engine.proofs.replay.loading.given_up_in.Given as goal

abbrev pub invariant-loop-at : goal.invariant-loop-at
invariant-loop-at l = record {
  behind : 0 < l.at;
  aligned : l.at % 64 ≡ 0;
  short : l.at < length l.trace + 65;
  room : length l.trace < 64 * length l.flags.items;
  touched : IsTouched (record { trace = l.trace; marks = load_marks (length l.trace) }) (loaded_view l.trace l.flags.items) l.initial.shelf l.shelf (names_at l.trace (multiples_below l.at));
}

abbrev pub decreases-loop-at : goal.decreases-loop-at
decreases-loop-at l = length l.ops - l.at
