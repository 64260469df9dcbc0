use Rattle.std.proofs.Common.{◌<◌, ◌∷◌, [], length, take, arith, ap, sym, subst, length-append}
use Rattle.std.specs.Arc.{arc_value}
use Rattle.ownership_model.specs.State.{nothing_held}
use Rattle.ownership_model.specs.Step.{end_from}
use Rattle.heap_difference.specs.Alikes.{AreShifts}
use Rattle.heap_difference.specs.Layers.{LayerView, IsLaidBy}
use Rattle.heap_difference.specs.Passing.{IsUnderWay}
use Rattle.run_engine.specs.Segments.{trace_of}
use Rattle.run_engine.specs.inner.Untouched.{CanBeUnder}
use Rattle.run_engine.proofs.UntouchedLemmas.{under-none, way-none, under-may, under-next, begins-marked}
use Rattle.run_engine.proofs.replay.untouched.stretches_under.Goals as goal

pub loop-i-init : goal.loop-i-init
loop-i-init c = record {
  place = omega (arith, ap length c.empty-run.ensures);
  under = record {
    under = under-none c.args.revision.now.segments.now (arc_value c.args.layer.now) c.args.index (arc_value c.args.layer.now).from c.empty-run.result c.empty-run.ensures (omega (arith, c.requires.within))
        (begins-marked c.args.revision.now.segments.now c.args.index c.requires.kept) c.requires.laid c.requires.unused;
    way = way-none c.args.revision.now.segments.now (arc_value c.args.layer.now) c.in_ok-holders.holders c.args.index (arc_value c.args.layer.now).from c.empty-run.result c.empty-run.ensures
        (subst (λ (l : LayerView). IsUnderWay l c.in_ok-holders.holders (end_from nothing_held (trace_of (take c.args.index c.args.revision.now.segments.now))) l.from) c.deref.ensures
        (rw c.in_ok-holders.was at
        (c.holders.ensures.way (end_from nothing_held (trace_of (take c.args.index c.args.revision.now.segments.now)))
        (subst (λ (l : LayerView). IsLaidBy l (end_from nothing_held (trace_of (take c.args.index c.args.revision.now.segments.now))) l.from) (sym c.deref.ensures) c.requires.laid)
        (subst (λ (l : LayerView). AreShifts l.shifts (end_from nothing_held (trace_of (take c.args.index c.args.revision.now.segments.now))) l.from) (sym c.deref.ensures) c.requires.counts))));
  };
}

pub stretch_under-requires : goal.stretch_under-requires
stretch_under-requires c = record {
  new = end_from (arc_value c.args.layer.now).from (trace_of c.loop-i.run);
  is = under-may c.args.revision.now.segments.now (arc_value c.args.layer.now) c.loop-i.holders c.args.index c.loop-i.i (arc_value c.args.layer.now).from c.loop-i.run c.loop-i.invariant.place (omega (arith, c.loop-i-test.true, c.min-end.ensures, c.len.ensures)) c.loop-i.invariant.under;
}

pub loop-i-preserved : goal.loop-i-preserved
loop-i-preserved c =
    let old = c.args.revision.now.segments.now in
    let l = arc_value c.args.layer.now in
    let lt : c.loop-i.i < length old = omega (arith, c.loop-i-test.true, c.min-end.ensures, c.len.ensures) in
    let can : CanBeUnder old l c.loop-i.holders c.loop-i.i (end_from l.from (trace_of c.loop-i.run)) = under-may old l c.loop-i.holders c.args.index c.loop-i.i l.from c.loop-i.run c.loop-i.invariant.place lt c.loop-i.invariant.under in
    let segment = rw c.in-Some.is at c.in_ok-segment.ensures in
    record {
      place = omega (arith, c.loop-i.invariant.place, ap length c.in_ok-run-in-Some.ensures, length-append c.loop-i.run (c.in-Some.segment ∷ []));
      under = under-next old l c.loop-i.holders c.stretch_under.new.holders c.args.index c.loop-i.i l.from c.loop-i.run c.in_ok-run-in-Some.run' c.in-Some.segment c.loop-i.invariant.place lt c.in_ok-run-in-Some.ensures c.loop-i.invariant.under (segment (end_from l.from (trace_of c.loop-i.run)) can);
    }
