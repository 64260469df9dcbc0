use Rattle.std.proofs.Common.{◌≡◌, length, take, ap, sym, arith, ◌∙◌}
use Rattle.std.proofs.lemmas.List.{take_all}
use Rattle.run_engine.specs.Segments.{trace_of}
use Rattle.run_engine.proofs.SegmentLemmas.{length-trace_of-next}
use Rattle.run_engine.proofs.segments.walk.last_in.Goals as goal

pub loop-i-preserved : goal.loop-i-preserved
loop-i-preserved c =
    let next = length-trace_of-next c.args.segments.now c.loop-i.i c.index-segments-i.result c.loop-i-test.true c.index-segments-i.is in
    record { place = omega (arith, c.loop-i.invariant.place, ap length c.ops-len.ensures); before = omega (arith, c.loop-i.invariant.before, c.if-position-at.false) }

pub returns-then-position-at : goal.returns-then-position-at
returns-then-position-at c =
    let next = length-trace_of-next c.args.segments.now c.loop-i.i c.index-segments-i.result c.loop-i-test.true c.index-segments-i.is in
    record {
      within = omega (arith, c.loop-i-test.true);
      place = c.loop-i.invariant.place;
      before = c.loop-i.invariant.before;
      inside = λ lt. (c.loop-i-test.true, omega (arith, c.loop-i.invariant.place, c.loop-i.invariant.before, c.if-position-at.true, ap length c.ops-len.ensures));
    }

pub returns : goal.returns
returns c =
    let all : take c.loop-i.i c.args.segments.now ≡ c.args.segments.now = take_all c.loop-i.i c.args.segments.now (omega (arith, c.loop-i-test.false)) in
    let same : take (length c.args.segments.now) c.args.segments.now ≡ c.args.segments.now = take_all (length c.args.segments.now) c.args.segments.now (omega arith) in
    let whole : length (trace_of c.args.segments.now) ≡ c.loop-i.at = ap (λ ss. length (trace_of ss)) (sym all) ∙ c.loop-i.invariant.place in
    record {
      within = omega arith;
      place = ap (λ ss. length (trace_of ss)) same ∙ whole;
      before = c.loop-i.invariant.before;
      inside = λ lt. absurd (omega (arith, c.loop-i.invariant.before));
    }
