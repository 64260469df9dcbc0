use Rattle.std.proofs.Common.{◌≡◌, ◌∙◌, ◌+◌, length, take, ap, subst, sym, arith}
use Rattle.std.specs.Arc.{arc_value}
use Rattle.ownership_model.specs.State.{State, nothing_held}
use Rattle.ownership_model.specs.Step.{end_from}
use Rattle.heap_difference.specs.Differences.{IsDifference}
use Rattle.heap_difference.specs.Layers.{IsLaidBy}
use Rattle.run_engine.specs.Segments.{trace_of}
use Rattle.run_engine.proofs.UntouchedLemmas.{full-few}
use Rattle.run_engine.proofs.PassedLemmas.{differs-at, laid-at, counts-at, end-part, is-next-part}
use Rattle.run_engine.proofs.replay.parts.untouched_part.Goals as goal

pub part_under-requires-clause-laid : goal.part_under-requires-clause-laid
part_under-requires-clause-laid c =
    laid-at c.args.revision.now.segments.now c.args.old.now c.args.heap.now c.args.keys.now (arc_value c.in-Some.layer) c.requires.place c.requires.mark c.requires.difference (rw c.in-Some.is at c.in_ok-layer.ensures.from) (rw c.in-Some.is at c.in_ok-layer.ensures.laid)

pub part_under-requires-clause-counts : goal.part_under-requires-clause-counts
part_under-requires-clause-counts c =
    counts-at c.args.revision.now.segments.now c.args.old.now c.args.heap.now (arc_value c.in-Some.layer) c.requires.place c.requires.mark (rw c.in-Some.is at c.in_ok-layer.ensures.from) (rw c.in-Some.is at c.in_ok-layer.ensures.counts)

pub is_enough-requires-clause-few : goal.is_enough-requires-clause-few
is_enough-requires-clause-few c = omega (arith, full-few c.args.revision.now.segments.now c.args.revision.now.holds.kept.run.full, c.args.revision.now.holds.kept.trace.few)

pub overflow_add-old : goal.overflow_add-old
overflow_add-old c =
    omega (arith, c.in_ok-part.ensures.within, c.len.ensures, full-few c.args.revision.now.segments.now c.args.revision.now.holds.kept.run.full, c.args.revision.now.holds.kept.trace.few)

pub laid-requires : goal.laid-requires
laid-requires c =
    let old = c.args.revision.now.segments.now in
    let l = arc_value c.in-Some.layer in
    let after : c.in-Some-after.after ≡ end_from nothing_held (trace_of (take (c.args.old.now.index + length c.in_ok-part.part) old)) =
    (rw c.in-Some-after.is at c.in_ok-after.ensures) ∙ ap (λ n. end_from nothing_held (trace_of (take (c.args.old.now.index + n) old))) c.len.ensures in
    rw c.deref.ensures (record { state = end_from l.from (trace_of c.in_ok-part.part); is = subst (λ (m : State). IsLaidBy l m (end_from l.from (trace_of c.in_ok-part.part))) (sym after) c.in_ok-part.ensures.laid })

-- the heap behind the part
end-is : (c : goal.After-drop-layer-2) → c.in_ok-end.end ≡ end_from (arc_value c.in-Some.layer).from (trace_of c.in_ok-part.part)
end-is c =
    end-part c.args.revision.now.segments.now (arc_value c.in-Some.layer) c.args.old.now.index c.len.result c.in_ok-part.part c.in-Some-after.after c.in_ok-end.end c.args.revision.now.holds.kept.trace.distinct c.in_ok-part.ensures c.len.ensures
    (rw c.in-Some-after.is at c.in_ok-after.ensures) (rw c.deref.ensures at c.in_ok-end.ensures)

pub returns-clause-next : goal.returns-clause-next
returns-clause-next c =
    let old = c.args.revision.now.segments.now in
    let l = arc_value c.in-Some.layer in
    let from : l.from ≡ c.args.heap.now = rw c.in-Some.is at c.in_ok-layer.ensures.from in
    let differ = differs-at old c.args.old.now c.args.heap.now c.args.keys.now c.requires.place c.requires.mark c.requires.difference in
    let laid = laid-at old c.args.old.now c.args.heap.now c.args.keys.now l c.requires.place c.requires.mark c.requires.difference from (rw c.in-Some.is at c.in_ok-layer.ensures.laid) in
    let made = c.next_of.ensures in
    rw (sym from)
    (is-next-part old l c.args.old.now.index l.from c.in_ok-end.end c.in_ok-part.part c.next_of.result c.args.revision.now.holds.kept.run.begins c.requires.within laid c.in_ok-part.ensures
    (c.is_enough.ensures.some c.if-not-is_enough.false) (c.is_enough.ensures.enough c.if-not-is_enough.false) (end-is c) made.segments made.len made.end)

pub returns-clause-difference : goal.returns-clause-difference
returns-clause-difference c =
    let old = c.args.revision.now.segments.now in
    let l = arc_value c.in-Some.layer in
    let from : l.from ≡ c.args.heap.now = rw c.in-Some.is at c.in_ok-layer.ensures.from in
    let differ : IsDifference c.args.keys.now (end_from nothing_held (trace_of (take c.args.old.now.index old))) c.args.heap.now = differs-at old c.args.old.now c.args.heap.now c.args.keys.now c.requires.place c.requires.mark c.requires.difference in
    let made = c.next_of.ensures in
    rw (made.segments, made.end, end-is c)
    (c.in_ok-part.ensures.differs c.args.keys.now (rw c.in-Some.is at c.in_ok-layer.ensures.within) (subst (IsDifference c.args.keys.now (end_from nothing_held (trace_of (take c.args.old.now.index old)))) (sym from) differ))

pub returns-clause-origin : goal.returns-clause-origin
returns-clause-origin c = λ chunks. c.next_of.ensures.origin chunks c.args.heap.now
