use Rattle.std.proofs.Common.{◌≡◌, ◌+◌, ◌<◌, List, Some, length, take, arith, refl, ap, sym, subst, ◌∙◌}
use Rattle.std.specs.Prelude.{IfSome}
use Rattle.trace_types.specs.Operation.{Operation}
use Rattle.std.proofs.Math.Seq.{take-length}
use Rattle.std.specs.Ordering.{nat_cmp}
use Rattle.std.specs.BTreeSet.{contains}
use Rattle.run_engine.specs.GivenUp.{name_at, names_at}
use Rattle.run_engine.specs.inner.Onward.{begins, AreAnswered}
use Rattle.run_engine.proofs.NameLemmas.{named-next}
use Rattle.run_engine.proofs.OnwardLemmas.{AreAnswered-none, AreAnswered-begun}
use Rattle.run_engine.proofs.PlaceLemmas.{place-within}
use Rattle.run_engine.proofs.SegmentLemmas.{length-trace_of-next}
use Rattle.run_engine.proofs.replay.touching.touch_each.Goals as goal

pub overflow_add-at : goal.overflow_add-at
overflow_add-at c =
    let lt : c.loop-i.i < length c.args.segments.now = omega (arith, c.loop-i-test.true, c.len-i-end.ensures) in
    let next = length-trace_of-next c.args.segments.now c.loop-i.i c.at-segment.result lt c.at-segment.ensures in
    omega (arith, c.requires.fits, c.loop-i.invariant.place, next, ap length c.ops.ensures, place-within c.args.segments.now (c.loop-i.i + 1) _ refl)

pub loop-i-init : goal.loop-i-init
loop-i-init c = record { place = omega arith; named = tt; answered = AreAnswered-none c.args.shelf.now (contains nat_cmp c.args.answered.now) }

pub loop-i-preserved : goal.loop-i-preserved
loop-i-preserved c =
    let lt : c.loop-i.i < length c.args.segments.now = omega (arith, c.loop-i-test.true, c.len-i-end.ensures) in
    let next = length-trace_of-next c.args.segments.now c.loop-i.i c.at-segment.result lt c.at-segment.ensures in
    record {
      place = omega (arith, c.loop-i.invariant.place, next, ap length c.ops.ensures);
      named = subst (λ (xs : List Operation). IfSome c.last_id-before.result (λ id. name_at c.args.ops.now.ops (c.loop-i.at + length xs) ≡ Some id)) (sym c.ops.ensures)
          (named-next c.args.ops.now.ops c.args.from c.args.segments.now c.loop-i.i c.loop-i.at c.at-segment.result c.last_id-before.result c.requires.within c.requires.there lt c.at-segment.ensures c.last_id-before.ensures c.loop-i.invariant.place);
      answered = AreAnswered-begun c.args.ops.now.ops c.args.from c.args.segments.now c.loop-i.i c.loop-i.at c.at-segment.result c.args.shelf.now c.loop-i.shelf c.touch_behind.new.shelf _ _ _ lt c.at-segment.ensures c.loop-i.invariant.place
          c.loop-i.invariant.answered c.in_ok-touch_behind.ensures.answered;
    }

pub returns : goal.returns
returns c =
    let all : take c.loop-i.i c.args.segments.now ≡ c.args.segments.now = ap (λ n. take n c.args.segments.now) (omega (arith, c.loop-i-test.false, c.len-i-end.ensures, c.loop-i.auto.i-end)) ∙ take-length c.args.segments.now in
    record {
      answered = subst (λ ss. AreAnswered c.args.shelf.now c.loop-i.shelf (names_at c.args.ops.now.ops (begins c.args.from ss)) (contains nat_cmp c.args.answered.now) (contains nat_cmp c.loop-i.answered)) all c.loop-i.invariant.answered;
    }
