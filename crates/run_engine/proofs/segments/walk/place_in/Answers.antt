use Rattle.std.proofs.Common.{◌≡◌, ◌+◌, ◌<◌, ◌≤◌, length, take, drop, refl, ap, sym, ◌∙◌, arith}
use Rattle.std.specs.Prelude.{◌==◌}
use Rattle.std.specs.List.{position_from}
use Rattle.run_engine.specs.Segments.{ops_of, trace_of}
use Rattle.run_engine.proofs.ListingLemmas.{around}
use Rattle.run_engine.proofs.NumberLemmas.{place-here, place-next, place_within}
use Rattle.run_engine.proofs.SegmentLemmas.{length-trace_of-next}
use Rattle.run_engine.proofs.PlaceLemmas.{place-within}
use Rattle.run_engine.proofs.segments.walk.place_in.Goals as goal

pub overflow_add-result : goal.overflow_add-result
overflow_add-result c =
    let segments = c.args.segments.now in
    let i = c.loop-segment.segment-index in
    let s = c.segment-item.result in
    let less : c.in-Some.place < length (ops_of c.segment-item.result) = place_within c.args.id c.in-Some.place (ops_of s) (sym c.in-Some.ensures) in
    let next = length-trace_of-next segments i s c.loop-segment-test.true c.segment-item.is in
    let le : length (trace_of (take (c.loop-segment.segment-index + 1) c.args.segments.now)) ≤ length (trace_of c.args.segments.now) = place-within segments (i + 1) _ refl in
    omega (arith, c.requires, c.loop-segment.invariant.at)

pub returns-in-Some : goal.returns-in-Some
returns-in-Some c =
    let segments = c.args.segments.now in
    let i = c.loop-segment.segment-index in
    let s = c.segment-item.result in
    sym (c.loop-segment.invariant.place ∙ ap (λ ss. position_from (λ op. op.id == c.args.id) c.loop-segment.at (trace_of ss)) (around segments i s c.loop-segment-test.true c.segment-item.is)
    ∙ place-here c.args.id c.loop-segment.at c.in-Some.place (ops_of s) (trace_of (drop (i + 1) segments)) (sym c.in-Some.ensures))

pub loop-segment-preserved : goal.loop-segment-preserved
loop-segment-preserved c =
    let segments = c.args.segments.now in
    let i = c.loop-segment.segment-index in
    let s = c.segment-item.result in
    let next = length-trace_of-next segments i s c.loop-segment-test.true c.segment-item.is in
    let own : length c.ops.result.now ≡ length (ops_of c.segment-item.result) = ap length c.ops.ensures in
    record {
      at = omega (arith, c.loop-segment.invariant.at);
      place =
          c.loop-segment.invariant.place ∙ ap (λ ss. position_from (λ op. op.id == c.args.id) c.loop-segment.at (trace_of ss)) (around segments i s c.loop-segment-test.true c.segment-item.is)
          ∙ place-next c.args.id c.loop-segment.at (ops_of s) (trace_of (drop (i + 1) segments)) (sym c.in_default.ensures)
          ∙ ap (λ n. position_from (λ op. op.id == c.args.id) (c.loop-segment.at + n) (trace_of (drop (i + 1) segments))) (sym own);
    }

pub overflow_add-at : goal.overflow_add-at
overflow_add-at c =
    let segments = c.args.segments.now in
    let i = c.loop-segment.segment-index in
    let s = c.segment-item.result in
    let next = length-trace_of-next segments i s c.loop-segment-test.true c.segment-item.is in
    let le : length (trace_of (take (c.loop-segment.segment-index + 1) c.args.segments.now)) ≤ length (trace_of c.args.segments.now) = place-within segments (i + 1) _ refl in
    omega (arith, c.requires, c.loop-segment.invariant.at, ap length c.ops.ensures)
