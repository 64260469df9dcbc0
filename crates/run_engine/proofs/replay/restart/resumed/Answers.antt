use Rattle.std.proofs.Common.{◌≡◌, ◌-◌, length, take, sym, subst, arith}
use Rattle.run_engine.specs.Segments.{all_marks}
use Rattle.run_engine.specs.Bounds.{StepsAtMost}
use Rattle.run_engine.specs.Guesses.{with_guesses}
use Rattle.run_engine.specs.Steps.{AreStepped}
use Rattle.run_engine.specs.HeadAndTail.{AreShared}
use Rattle.run_engine.proofs.HeadAndTailLemmas.{ShareEnd-tail, from-greatest, bounded-none}
use Rattle.run_engine.proofs.RestartLemmas.{IsReached-restart, same-prefix}
use Rattle.run_engine.proofs.LeftLemmas.{AreMarksDue-restart}
use Rattle.run_engine.proofs.replay.restart.resumed.Goals as goal

pub converge-requires-clause-may : goal.converge-requires-clause-may
converge-requires-clause-may c =
    let kept = rw c.of-revision.ensures.segments at c.in_ok-prefix.ensures.restart in
    rw c.of-revision.ensures.ops
    (record {
      reached = IsReached-restart c.args.segments.now c.in_ok-prefix.prefix.segments c.args.end.now c.in_ok-prefix.prefix.end c.args.ops.now.ops c.head-first.result _ c.in_ok-prefix.prefix.len
          c.requires.kept.run kept (rw c.of-revision.ensures.segments at c.in_ok-prefix.ensures.segments) (subst (λ t. take c.head-first.result t ≡ take c.head-first.result c.args.ops.now.ops) c.requires.base c.head-first.ensures.same) c.head-first.ensures.within;
      order = omega (arith, kept.greatest.early, c.tail-last.ensures.within, c.len.ensures);
      within = omega (arith, c.len.ensures);
    })

pub converge-requires-clause-shared : goal.converge-requires-clause-shared
converge-requires-clause-shared c =
    rw (c.of-revision.ensures.segments, c.of-revision.ensures.ops, c.base_len.ensures, c.len.ensures, ← c.requires.base) (ShareEnd-tail c.args.ops.now.base c.args.ops.now.ops c.head-first.result c.tail-last.result c.tail-last.ensures)

pub converge-requires-clause-begins : goal.converge-requires-clause-begins
converge-requires-clause-begins c =
    rw (c.of-revision.ensures.segments, c.of-revision.ensures.ops, ← c.requires.base)
    (same-prefix c.args.ops.now.base c.args.ops.now.ops c.head-first.result c.in_ok-prefix.prefix.len
    (rw c.of-revision.ensures.segments at c.in_ok-prefix.ensures.restart).greatest.early c.head-first.ensures.same)

pub converge-requires-clause-placed : goal.converge-requires-clause-placed
converge-requires-clause-placed c = c.in_ok-prefix.ensures.placed c.args.shelf.now.chunks

pub returns-in_err-prefix-clause-bound : goal.returns-in_err-prefix-clause-bound
returns-in_err-prefix-clause-bound c = bounded-none c.args.ops.now.base c.args.ops.now.ops _ _

pub returns-in_err-replay-clause-bound : goal.returns-in_err-replay-clause-bound
returns-in_err-replay-clause-bound c =
    from-greatest (λ t r. StepsAtMost c.args.ops.now.base c.args.ops.now.ops (length c.args.ops.now.base - t) (length c.args.ops.now.ops - t) (all_marks c.args.segments.now) r c.args.meter.now c.converge.new.meter)
    c.args.ops.now.base c.args.ops.now.ops (all_marks c.args.segments.now) c.head-first.result c.tail-last.result c.in_ok-prefix.prefix.len
    (record { head_is = c.head-first.ensures; tail_is = c.tail-last.ensures })
    (rw c.of-revision.ensures.segments at c.in_ok-prefix.ensures.restart).greatest
    (subst (λ t. StepsAtMost t c.args.ops.now.ops (length t - c.tail-last.result) (length c.args.ops.now.ops - c.tail-last.result) (all_marks c.args.segments.now) c.in_ok-prefix.prefix.len c.args.meter.now c.converge.new.meter) (sym c.requires.base)
    (rw (c.of-revision.ensures.segments, c.of-revision.ensures.ops, c.base_len.ensures, c.len.ensures, c.requires.base) at c.converge.ensures.bound))

pub returns-clause-bound : goal.returns-clause-bound
returns-clause-bound c =
    from-greatest (λ t r. StepsAtMost c.args.ops.now.base c.args.ops.now.ops (length c.args.ops.now.base - t) (length c.args.ops.now.ops - t) (all_marks c.args.segments.now) r c.args.meter.now c.converge.new.meter)
    c.args.ops.now.base c.args.ops.now.ops (all_marks c.args.segments.now) c.head-first.result c.tail-last.result c.in_ok-prefix.prefix.len
    (record { head_is = c.head-first.ensures; tail_is = c.tail-last.ensures })
    (rw c.of-revision.ensures.segments at c.in_ok-prefix.ensures.restart).greatest
    (subst (λ t. StepsAtMost t c.args.ops.now.ops (length t - c.tail-last.result) (length c.args.ops.now.ops - c.tail-last.result) (all_marks c.args.segments.now) c.in_ok-prefix.prefix.len c.args.meter.now c.converge.new.meter) (sym c.requires.base)
    (rw (c.of-revision.ensures.segments, c.of-revision.ensures.ops, c.base_len.ensures, c.len.ensures, c.requires.base) at c.converge.ensures.bound))

pub returns-clause-stepped : goal.returns-clause-stepped
returns-clause-stepped c =
    from-greatest (λ t r. AreStepped (record { old = c.args.ops.now.base; ops = c.args.ops.now.ops; base = length c.args.ops.now.base - t; edited = length c.args.ops.now.ops - t; marks = all_marks c.args.segments.now; chunks = with_guesses c.args.guesses.now c.args.shelf.now.chunks }) r c.args.meter.now c.converge.new.meter)
    c.args.ops.now.base c.args.ops.now.ops (all_marks c.args.segments.now) c.head-first.result c.tail-last.result c.in_ok-prefix.prefix.len
    (record { head_is = c.head-first.ensures; tail_is = c.tail-last.ensures })
    (rw c.of-revision.ensures.segments at c.in_ok-prefix.ensures.restart).greatest
    (subst (λ t. AreStepped (record { old = t; ops = c.args.ops.now.ops; base = length t - c.tail-last.result; edited = length c.args.ops.now.ops - c.tail-last.result; marks = all_marks c.args.segments.now; chunks = with_guesses c.args.guesses.now c.args.shelf.now.chunks }) c.in_ok-prefix.prefix.len c.args.meter.now c.converge.new.meter) (sym c.requires.base)
    (rw (c.of-revision.ensures.segments, c.of-revision.ensures.ops, c.base_len.ensures, c.len.ensures, c.requires.base, c.of-revision.ensures.guesses) at c.in_ok-replay.ensures.stepped))

pub returns-clause-marks : goal.returns-clause-marks
returns-clause-marks c =
    rw c.requires.base
    (AreMarksDue-restart c.args.guesses.now c.args.segments.now c.in_ok-prefix.prefix.segments c.args.end.now c.in_ok-prefix.prefix.end c.args.ops.now.ops (all_marks c.in_ok-replay.replay.segments) c.head-first.result c.tail-last.result _ c.in_ok-prefix.prefix.len _ _ _ _
    c.requires.kept.run (rw c.of-revision.ensures.segments at c.in_ok-prefix.ensures.restart) (rw c.of-revision.ensures.segments at c.in_ok-prefix.ensures.segments)
    (subst (λ t. AreShared t c.args.ops.now.ops c.head-first.result c.tail-last.result) c.requires.base (record { head_is = c.head-first.ensures; tail_is = c.tail-last.ensures })) c.in_ok-prefix.ensures.answered
    (rw (c.of-revision.ensures.segments, c.of-revision.ensures.ops, c.base_len.ensures, c.len.ensures, c.requires.base, c.of-revision.ensures.guesses) at c.in_ok-replay.ensures.marks))
