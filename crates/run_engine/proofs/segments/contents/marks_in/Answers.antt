use Rattle.std.proofs.Common.{◌≤◌, ◌+◌, ◌++◌, length, take, ap, sym, refl, ◌∙◌, arith}
use Rattle.run_engine.specs.Segments.{trace_of, mark_here}
use Rattle.run_engine.proofs.SegmentLemmas.{length-trace_of-next}
use Rattle.run_engine.proofs.PlaceLemmas.{place-within}
use Rattle.run_engine.proofs.MarksLemmas.{marks_from-next}
use Rattle.run_engine.proofs.segments.contents.marks_in.Goals as goal

pub loop-i-preserved : goal.loop-i-preserved
loop-i-preserved c =
    let next = length-trace_of-next c.args.segments.now c.loop-i.i c.at-segment.result (omega (arith, c.loop-i-test.true, c.len-i-end.ensures)) c.at-segment.ensures in
    let place = c.loop-i.invariant.at in
    let marks = marks_from-next c.args.segments.now c.loop-i.i c.at-segment.result c.loop-i.at (omega (arith, c.loop-i-test.true, c.len-i-end.ensures)) c.at-segment.ensures place in
    record {
      marks = c.in_ok-push_mark.ensures ∙ ap (λ ps. ps ++ mark_here c.loop-i.at c.at-segment.result.mark) c.loop-i.invariant.marks ∙ sym marks;
      at = omega (arith, ap length c.ops.ensures);
    }

pub overflow_add-at : goal.overflow_add-at
overflow_add-at c =
    let next = length-trace_of-next c.args.segments.now c.loop-i.i c.at-segment.result (omega (arith, c.loop-i-test.true, c.len-i-end.ensures)) c.at-segment.ensures in
    let le : length (trace_of (take (c.loop-i.i + 1) c.args.segments.now)) ≤ length (trace_of c.args.segments.now) = place-within c.args.segments.now (c.loop-i.i + 1) _ refl in
    omega (arith, c.loop-i.invariant.at, ap length c.ops.ensures)
