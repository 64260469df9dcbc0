use Rattle.std.proofs.Common.{◌≡◌, ◌∙◌, ◌<◌, ◌∷◌, ◌++◌, [], length, arith, ap, refl, sym, false, append_assoc, length-append}
use Rattle.std.specs.Arc.{arc_value}
use Rattle.std.proofs.lemmas.List.{append-nil}
use Rattle.ownership_model.specs.Step.{end_from}
use Rattle.run_engine.specs.Segments.{trace_of, has_mark}
use Rattle.run_engine.specs.inner.Untouched.{CanBeUnder, IsPartUnder}
use Rattle.run_engine.proofs.UntouchedLemmas.{full-few}
use Rattle.run_engine.proofs.PassedLemmas.{has_mark-is, part-none, part-first, part-may, part-next}
use Rattle.run_engine.proofs.replay.parts.part_under.Goals.{then-is_anchored+in_ok-done, else-is_anchored}
use Rattle.run_engine.proofs.replay.parts.part_under.Goals as goal

pub overflow_step-i : goal.overflow_step-i
overflow_step-i c = omega (arith, c.requires.within, full-few c.args.revision.now.segments.now c.args.revision.now.holds.kept.run.full, c.args.revision.now.holds.kept.trace.few)

pub returns-in_default : goal.returns-in_default
returns-in_default c =
    part-none c.args.revision.now.segments.now (arc_value c.args.layer.now) c.args.index (arc_value c.args.layer.now).from c.empty-done.result c.empty-done.ensures (omega (arith, c.requires.within)) c.requires.laid c.requires.unused

pub loop-i-init : goal.loop-i-init
loop-i-init c =
    let old = c.args.revision.now.segments.now in
    let l = arc_value c.args.layer.now in
    let is : c.empty-done.result ++ c.in_ok-open.open ≡ c.in-Some.first ∷ [] = rw (c.empty-done.ensures, c.in_ok-open.ensures, c.empty.ensures) refl in
    let none : IsPartUnder old l c.args.index l.from c.empty-done.result = part-none old l c.args.index l.from c.empty-done.result c.empty-done.ensures (omega (arith, c.requires.within)) c.requires.laid c.requires.unused in
    record {
      place = omega (arith, ap length is);
      some = omega (arith, ap length is);
      part = none;
      whole = part-first old l c.first_under.new.holders c.args.index l.from c.args.heap.now c.empty-done.result (c.empty-done.result ++ c.in_ok-open.open) c.in-Some.first c.empty-done.ensures is c.requires.from c.requires.within none
          (rw (c.in-Some.is, c.deref-2.ensures) at c.in_ok-first.ensures);
    }

pub bare_under-requires : goal.bare_under-requires
bare_under-requires c =
    let old = c.args.revision.now.segments.now in
    let l = arc_value c.args.layer.now in
    let lt : c.loop-i.i < length old = omega (arith, c.loop-i-test.true, c.len-i-end.ensures) in
    record {
      may = record {
        new = end_from l.from (trace_of (c.loop-i.done ++ c.loop-i.open));
        is = part-may old l c.loop-i.holders c.args.index c.loop-i.i l.from (c.loop-i.done ++ c.loop-i.open) c.loop-i.invariant.place lt c.loop-i.invariant.whole;
      };
      bare = has_mark-is old c.loop-i.i c.at-segment.result lt c.at-segment.ensures ∙ sym c.is_marked.ensures ∙ c.if-is_marked.false;
    }

pub loop-i-preserved : goal.loop-i-preserved
loop-i-preserved c =
    let old = c.args.revision.now.segments.now in
    let l = arc_value c.args.layer.now in
    let lt : c.loop-i.i < length old = omega (arith, c.loop-i-test.true, c.len-i-end.ensures) in
    let can : CanBeUnder old l c.loop-i.holders c.loop-i.i (end_from l.from (trace_of (c.loop-i.done ++ c.loop-i.open))) =
    part-may old l c.loop-i.holders c.args.index c.loop-i.i l.from (c.loop-i.done ++ c.loop-i.open) c.loop-i.invariant.place lt c.loop-i.invariant.whole in
    let none : has_mark old c.loop-i.i ≡ false = has_mark-is old c.loop-i.i c.at-segment.result lt c.at-segment.ensures ∙ sym c.is_marked.ensures ∙ c.if-is_marked.false in
    let same : c.if-is_anchored.done ++ c.if-is_anchored.open ≡ c.loop-i.done ++ c.loop-i.open = elim c.if-is_anchored.branch [
      | then-is_anchored+in_ok-done w ↦ rw (w.done-is, w.in_ok-done.ensures, w.open-is, w.empty-open.ensures) (append-nil (c.loop-i.done ++ c.loop-i.open))
      | else-is_anchored w ↦ rw (w.done-is, w.open-is) refl
    ] in
    let more : c.if-is_anchored.done ++ c.in_ok-open-2.open ≡ (c.loop-i.done ++ c.loop-i.open) ++ c.in-Some-next.next ∷ [] =
    ap (λ o. c.if-is_anchored.done ++ o) c.in_ok-open-2.ensures ∙ sym (append_assoc c.if-is_anchored.done c.if-is_anchored.open (c.in-Some-next.next ∷ [])) ∙ ap (λ xs. xs ++ c.in-Some-next.next ∷ []) same in
    let segment = rw c.in-Some-next.is at c.in_ok-next.ensures in
    record {
      place = omega (arith, c.loop-i.invariant.place, ap length more, length-append (c.loop-i.done ++ c.loop-i.open) (c.in-Some-next.next ∷ []));
      some = omega (arith, ap length more, length-append (c.loop-i.done ++ c.loop-i.open) (c.in-Some-next.next ∷ []));
      part = elim c.if-is_anchored.branch [
        | then-is_anchored+in_ok-done w ↦ rw (w.done-is, w.in_ok-done.ensures) c.loop-i.invariant.whole.part
        | else-is_anchored w ↦ rw w.done-is c.loop-i.invariant.part
      ];
      whole = part-next old l c.bare_under.new.holders c.args.index c.loop-i.i l.from (c.loop-i.done ++ c.loop-i.open) (c.if-is_anchored.done ++ c.in_ok-open-2.open) c.in-Some-next.next c.loop-i.invariant.place lt c.loop-i.invariant.some more none c.loop-i.invariant.whole.part
          (segment (end_from l.from (trace_of (c.loop-i.done ++ c.loop-i.open))) can);
    }
