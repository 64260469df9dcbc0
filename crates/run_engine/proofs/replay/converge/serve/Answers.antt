use Rattle.std.proofs.Common.{◌-◌, ◌≤◌, drop, arith}
use Rattle.std.proofs.lemmas.List.{length-take}
use Rattle.run_engine.specs.Segments.{trace_of, marks_from, all_marks}
use Rattle.run_engine.specs.Guesses.{with_guesses}
use Rattle.run_engine.specs.inner.OldRun.{reusable}
use Rattle.run_engine.specs.inner.GoesOn.{GoesOnBeside}
use Rattle.run_engine.specs.inner.Origins.{stepped_chunk, shelf_number}
use Rattle.run_engine.proofs.PieceLemmas.{IsReached-next, marks_from-piece}
use Rattle.run_engine.proofs.OnwardLemmas.{IsOnward-piece}
use Rattle.run_engine.proofs.GuessLemmas.{AreSome-guesses}
use Rattle.run_engine.proofs.SteppedLemmas.{HaveStepped-next}
use Rattle.run_engine.proofs.GoesOnLemmas.{GoesOn-none, GoesOn-next}
use Rattle.run_engine.proofs.FreshLemmas.{EndsWith-fewer, begins-there}
use Rattle.run_engine.proofs.replay.converge.serve.Goals as goal

pub loop-progress-init : goal.loop-progress-init
loop-progress-init c = record {
  beside = GoesOn-none (trace_of c.args.revision.now.segments.now) c.args.revision.now.ops.now.ops (reusable c.args.revision.now) c.args.progress.prefix c.args.shelf.now c.args.meter.now c.requires.may.reached;
  fork = c.requires.fork;
  placed = c.requires.placed;
  order = c.requires.may.order;
  never_less = omega arith;
  steps = omega arith;
}

pub next_piece-requires-clause-placed : goal.next_piece-requires-clause-placed
next_piece-requires-clause-placed c =
    let placed = c.loop-progress.invariant.placed in
    record {
      fresh = placed.fresh;
      kept = EndsWith-fewer c.loop-progress.shelf.chunks c.touch_at.new.shelf.chunks (shelf_number c.loop-progress.progress.prefix.behind) c.loop-progress.progress.prefix.end c.in_ok-touch_at.ensures.answered.touched.fewer placed.kept;
    }

pub joined-requires-clause-behind : goal.joined-requires-clause-behind
joined-requires-clause-behind c = λ last. begins-there (stepped_chunk c.in_ok-piece.piece.origin) c.loop-progress.progress.prefix.fresh c.loop-progress.progress.prefix.end c.in_ok-piece.ensures.next.start_is (c.loop-progress.invariant.placed.fresh last)

pub joined-requires-clause-fits : goal.joined-requires-clause-fits
joined-requires-clause-fits c =
    let piece = c.in_ok-piece.ensures.piece in
    let long : c.in_ok-piece.piece.len ≤ c.args.limits.to - c.loop-progress.progress.prefix.len = omega (arith, piece.fits, length-take (c.args.limits.to - c.loop-progress.progress.prefix.len) (drop c.loop-progress.progress.prefix.len c.args.revision.now.ops.now.ops)) in
    omega (arith, long, c.loop-progress.invariant.order, c.requires.may.within, c.args.revision.now.holds.trace.few)

-- as far as a cut where an old stretch or a guess may begin
pub loop-progress-preserved-then-at-next : goal.loop-progress-preserved-then-at-next
loop-progress-preserved-then-at-next c =
    let h = c.loop-progress.invariant in
    let on = c.in_ok-prefix.ensures in
    let old = c.args.revision.now.segments.now in
    record {
      beside = GoesOn-next _ _ _ _ _ _ _ _ _ _ _ _ h.beside (on.goes_on (trace_of old) (reusable c.args.revision.now));
      fork = h.fork;
      placed = on.placed;
      order = omega (arith, on.there, c.next_start-next.ensures.within);
      never_less = omega (arith, h.never_less, on.metered.never_less);
      steps = omega (arith, h.steps, on.metered.rise, on.there);
    }

pub loop-progress-preserved : goal.loop-progress-preserved
loop-progress-preserved c =
    let h = c.loop-progress.invariant in
    let piece = c.in_ok-piece.ensures.piece in
    let joined = c.in_ok-prefix-2.ensures in
    let order = h.order in
    let long : c.in_ok-piece.piece.len ≤ c.args.limits.to - c.loop-progress.progress.prefix.len = omega (arith, piece.fits, length-take (c.args.limits.to - c.loop-progress.progress.prefix.len) (drop c.loop-progress.progress.prefix.len c.args.revision.now.ops.now.ops)) in
    let touched = c.in_ok-touch_at.ensures.answered in
    let on : GoesOnBeside c.args.revision.now c.loop-progress.progress.prefix c.in_ok-prefix-2.prefix c.loop-progress.shelf c.next_piece.new.shelf c.loop-progress.meter c.next_piece.new.meter =
    record {
      reached = rw (joined.segments, joined.end, joined.len)
          (IsReached-next c.args.revision.now.ops.now.ops c.loop-progress.progress.prefix.len c.args.limits.to c.in_ok-piece.piece.len c.loop-progress.progress.prefix.segments c.in_ok-piece.piece.segments c.loop-progress.progress.prefix.end c.in_ok-piece.piece.end h.beside.reached order c.requires.may.within piece);
      onward = rw (joined.segments, joined.len, joined.answered)
          (IsOnward-piece c.args.revision.now.ops.now.ops (reusable c.args.revision.now) c.loop-progress.progress.prefix.len c.in_ok-piece.piece.len (marks_from 0 c.loop-progress.progress.prefix.segments) _ c.loop-progress.shelf _ _ _ _ c.args.revision.now.holds.trace.distinct c.in_ok-piece.ensures.gap
          (marks_from-piece c.args.revision.now.ops.now.ops _ c.loop-progress.progress.prefix.len c.in_ok-piece.piece.len c.loop-progress.progress.prefix.segments c.in_ok-piece.piece.segments c.loop-progress.progress.prefix.end c.in_ok-piece.piece.end h.beside.reached piece)
          touched c.in_ok-piece.ensures.searched);
      stepped = λ r start chunks k all. rw joined.len
          (HaveStepped-next (trace_of c.args.revision.now.segments.now) c.args.revision.now.ops.now.ops (all_marks c.args.revision.now.segments.now) (with_guesses c.args.revision.now.guesses.now c.touch_at.new.shelf.chunks) chunks c.loop-progress.progress.prefix.end r c.loop-progress.progress.prefix.len c.args.limits.to c.in_ok-piece.piece.len start c.loop-progress.meter _
          h.beside.reached.state long (λ e m. all e (AreSome-guesses c.args.revision.now.guesses.now c.touch_at.new.shelf.chunks c.loop-progress.shelf.chunks touched.touched.fewer e m)) c.in_ok-piece.ensures.taken k);
    } in
    record {
      beside = GoesOn-next _ _ _ _ _ _ _ _ _ _ _ _ h.beside on;
      fork = c.in_ok-piece.ensures.fork;
      placed = joined.placed c.next_piece.new.shelf.chunks c.in_ok-piece.ensures.next;
      order = omega (arith, joined.len, long, order);
      never_less = omega (arith, h.never_less, c.in_ok-piece.ensures.metered.never_less);
      steps = omega (arith, h.steps, c.in_ok-piece.ensures.steps, joined.len);
    }
