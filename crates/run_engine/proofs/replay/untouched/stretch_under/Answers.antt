use Rattle.std.proofs.Common.{◌∙◌, arith, sym, subst}
use Rattle.std.specs.Arc.{arc_value}
use Rattle.heap_difference.specs.Recounted.{told_or}
use Rattle.run_engine.specs.SegmentView.{SegmentView}
use Rattle.run_engine.specs.inner.Untouched.{IsClear, IsUnder}
use Rattle.run_engine.proofs.UntouchedLemmas.{full-few, under-here, stands-told, names-there}
use Rattle.run_engine.proofs.replay.untouched.stretch_under.Goals as goal

pub overflow_add-i : goal.overflow_add-i
overflow_add-i c = omega (arith, c.requires.is.within, full-few c.args.revision.now.segments.now c.args.revision.now.holds.kept.run.full, c.args.revision.now.holds.kept.trace.few)

pub under-requires : goal.under-requires
under-requires c =
    let s : SegmentView = c.at-segment.result in
    let l = arc_value c.args.layer.now in
    let can = c.requires.is in
    let clear : IsClear s l c.args.holders.now c.passed.new.holders (told_or s.outcomes c.in-Some.told) = rw (c.in-Some.is, c.deref.ensures) at c.in_ok-told.ensures in
    record {
      new = c.requires.new;
      is = (under-here c.args.revision.now.segments.now c.args.revision.now.end.now c.args.i c.requires.new s l c.args.holders.now c.passed.new.holders (told_or s.outcomes c.in-Some.told) c.args.revision.now.holds.kept can.within c.at-segment.ensures
          (sym c.is_marked.ensures ∙ c.if-not-is_marked.false) (c.is_followed.ensures c.if-not-is_followed.false) can.way can.unused clear).0;
    }

pub recounted-requires : goal.recounted-requires
recounted-requires c =
    let s : SegmentView = c.at-segment.result in
    let l = arc_value c.args.layer.now in
    let can = c.requires.is in
    let clear : IsClear s l c.args.holders.now c.passed.new.holders (told_or s.outcomes c.in-Some.told) = rw (c.in-Some.is, c.deref.ensures) at c.in_ok-told.ensures in
    let both = under-here c.args.revision.now.segments.now c.args.revision.now.end.now c.args.i c.requires.new s l c.args.holders.now c.passed.new.holders (told_or s.outcomes c.in-Some.told) c.args.revision.now.holds.kept can.within c.at-segment.ensures
    (sym c.is_marked.ensures ∙ c.if-not-is_marked.false) (c.is_followed.ensures c.if-not-is_followed.false) can.way can.unused clear in
    names-there l s c.in-Some-2.under c.args.holders.now c.passed.new.holders c.in-Some.told c.requires.new both.0 (rw c.in-Some-2.is at c.in_ok-under.ensures) clear

pub returns : goal.returns
returns c new can =
    let s : SegmentView = c.at-segment.result in
    let l = arc_value c.args.layer.now in
    let clear : IsClear s l c.args.holders.now c.passed.new.holders (told_or s.outcomes c.in-Some.told) = rw (c.in-Some.is, c.deref.ensures) at c.in_ok-told.ensures in
    let both = under-here c.args.revision.now.segments.now c.args.revision.now.end.now c.args.i new s l c.args.holders.now c.passed.new.holders (told_or s.outcomes c.in-Some.told) c.args.revision.now.holds.kept can.within c.at-segment.ensures
    (sym c.is_marked.ensures ∙ c.if-not-is_marked.false) (c.is_followed.ensures c.if-not-is_followed.false) can.way can.unused clear in
    subst (IsUnder c.args.revision.now.segments.now l c.passed.new.holders c.args.i new)
    (stands-told l s c.in-Some-2.under c.in_ok-recounted.field-0 c.in-Some.told new both.0 (rw c.in-Some-2.is at c.in_ok-under.ensures) c.in_ok-recounted.ensures) both.1
