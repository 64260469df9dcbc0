use Rattle.std.proofs.Common.{◌≤◌, ◌+◌, length, take, ap, refl, arith}
use Rattle.run_engine.specs.Segments.{trace_of}
use Rattle.run_engine.proofs.SegmentLemmas.{length-trace_of-next}
use Rattle.run_engine.proofs.PlaceLemmas.{place-within}
use Rattle.run_engine.proofs.segments.walk.len_of.Goals as goal

pub loop-segment-preserved : goal.loop-segment-preserved
loop-segment-preserved c =
    let next = length-trace_of-next c.args.segments.now c.loop-segment.segment-index c.segment-item.result c.loop-segment-test.true c.segment-item.is in
    omega (arith, c.loop-segment.invariant, ap length c.ops.ensures)

pub overflow_add-len : goal.overflow_add-len
overflow_add-len c =
    let next = length-trace_of-next c.args.segments.now c.loop-segment.segment-index c.segment-item.result c.loop-segment-test.true c.segment-item.is in
    let le : length (trace_of (take (c.loop-segment.segment-index + 1) c.args.segments.now)) ≤ length (trace_of c.args.segments.now) = place-within c.args.segments.now (c.loop-segment.segment-index + 1) _ refl in
    omega (arith, c.loop-segment.invariant, c.requires, ap length c.ops.ensures)
