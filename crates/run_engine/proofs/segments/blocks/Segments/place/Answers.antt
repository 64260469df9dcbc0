use Rattle.std.proofs.Common.{◌≡◌, ℕ, ◌+◌, ◌<◌, List, length, take, drop, refl, ap, sym, ◌∙◌, arith, length-append}
use Rattle.std.specs.Prelude.{◌==◌}
use Rattle.std.specs.List.{position_from}
use Rattle.trace_types.specs.Trace.{place_of}
use Rattle.run_engine.specs.SegmentView.{SegmentView}
use Rattle.run_engine.specs.inner.Parts.{joined}
use Rattle.run_engine.specs.Segments.{trace_of}
use Rattle.run_engine.proofs.ListingLemmas.{around}
use Rattle.run_engine.proofs.NumberLemmas.{place-here, place-next, place_within}
use Rattle.run_engine.proofs.SegmentLemmas.{trace_of-append}
use Rattle.run_engine.proofs.PositionLemmas.{traces-next, prefix-few}
use Rattle.run_engine.proofs.segments.blocks.Segments.place.Goals as goal

pub loop-block-init : goal.loop-block-init
loop-block-init c = record { at = refl; place = ap (λ ss. place_of c.args.id (trace_of ss)) (sym (ap joined c.deref-block-items.ensures.value ∙ c.self.view_is)) }

pub overflow_add-result : goal.overflow_add-result
overflow_add-result c =
    let blocks : List (List SegmentView) = c.deref-block-items.result.now in
    let i : ℕ = c.loop-block.block-index in
    let b : List SegmentView = c.block-item.result in
    let less : c.in-Some.place < length (trace_of c.block-item.result) = place_within c.args.id c.in-Some.place (trace_of b) (sym c.in-Some.ensures) in
    let next : length (trace_of (joined (take (c.loop-block.block-index + 1) c.deref-block-items.result.now))) ≡ length (trace_of (joined (take c.loop-block.block-index c.deref-block-items.result.now))) + length (trace_of c.block-item.result) = ap length (traces-next blocks i b c.loop-block-test.true c.block-item.is) ∙ length-append (trace_of (joined (take i blocks))) (trace_of b) in
    omega (arith, prefix-few c.deref-block-items.result.now (c.loop-block.block-index + 1), ap (λ bs. length (trace_of (joined bs))) c.deref-block-items.ensures.value, c.self.invariant.4, c.self.invariant.5, c.loop-block.invariant.at)

pub returns-in-Some : goal.returns-in-Some
returns-in-Some c =
    let blocks : List (List SegmentView) = c.deref-block-items.result.now in
    let i : ℕ = c.loop-block.block-index in
    let b : List SegmentView = c.block-item.result in
    sym (c.loop-block.invariant.place ∙ ap (position_from (λ op. op.id == c.args.id) c.loop-block.at) (ap (λ bs. trace_of (joined bs)) (around blocks i b c.loop-block-test.true c.block-item.is) ∙ trace_of-append b (joined (drop (i + 1) blocks)))
    ∙ place-here c.args.id c.loop-block.at c.in-Some.place (trace_of b) (trace_of (joined (drop (i + 1) blocks))) (sym c.in-Some.ensures))

pub loop-block-preserved : goal.loop-block-preserved
loop-block-preserved c =
    let blocks : List (List SegmentView) = c.deref-block-items.result.now in
    let i : ℕ = c.loop-block.block-index in
    let b : List SegmentView = c.block-item.result in
    let next : length (trace_of (joined (take (c.loop-block.block-index + 1) c.deref-block-items.result.now))) ≡ length (trace_of (joined (take c.loop-block.block-index c.deref-block-items.result.now))) + length (trace_of c.block-item.result) = ap length (traces-next blocks i b c.loop-block-test.true c.block-item.is) ∙ length-append (trace_of (joined (take i blocks))) (trace_of b) in
    record {
      at = omega (arith, c.loop-block.invariant.at, c.ops_len-at.ensures.value);
      place =
          c.loop-block.invariant.place ∙ ap (position_from (λ op. op.id == c.args.id) c.loop-block.at) (ap (λ bs. trace_of (joined bs)) (around blocks i b c.loop-block-test.true c.block-item.is) ∙ trace_of-append b (joined (drop (i + 1) blocks)))
          ∙ place-next c.args.id c.loop-block.at (trace_of b) (trace_of (joined (drop (i + 1) blocks))) (sym c.in_default.ensures)
          ∙ ap (λ n. position_from (λ op. op.id == c.args.id) (c.loop-block.at + n) (trace_of (joined (drop (i + 1) blocks)))) (sym c.ops_len-at.ensures.value);
    }

pub overflow_add-at : goal.overflow_add-at
overflow_add-at c =
    let blocks : List (List SegmentView) = c.deref-block-items.result.now in
    let i : ℕ = c.loop-block.block-index in
    let b : List SegmentView = c.block-item.result in
    let next : length (trace_of (joined (take (c.loop-block.block-index + 1) c.deref-block-items.result.now))) ≡ length (trace_of (joined (take c.loop-block.block-index c.deref-block-items.result.now))) + length (trace_of c.block-item.result) = ap length (traces-next blocks i b c.loop-block-test.true c.block-item.is) ∙ length-append (trace_of (joined (take i blocks))) (trace_of b) in
    omega (arith, prefix-few c.deref-block-items.result.now (c.loop-block.block-index + 1), ap (λ bs. length (trace_of (joined bs))) c.deref-block-items.ensures.value, c.self.invariant.4, c.self.invariant.5, c.loop-block.invariant.at, c.ops_len-at.ensures.value)
