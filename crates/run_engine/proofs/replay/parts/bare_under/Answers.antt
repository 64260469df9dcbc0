use Rattle.std.proofs.Common.{◌≡◌, ◌∙◌, false, sym, subst}
use Rattle.std.specs.Prelude.{is_some}
use Rattle.std.specs.Arc.{arc_value}
use Rattle.heap_difference.specs.Recounted.{told_or}
use Rattle.run_engine.specs.SegmentView.{SegmentView}
use Rattle.run_engine.specs.inner.Untouched.{IsClear, IsPassedOver}
use Rattle.run_engine.proofs.UntouchedLemmas.{bare-over, stands-told, names-there}
use Rattle.run_engine.proofs.PassedLemmas.{has_mark-is}
use Rattle.run_engine.proofs.replay.parts.bare_under.Goals as goal

pub under-requires : goal.under-requires
under-requires c =
    let s : SegmentView = c.at-segment.result in
    let old = c.args.revision.now.segments.now in
    let l = arc_value c.args.layer.now in
    let can = c.requires.may.is in
    let clear : IsClear s l c.args.holders.now c.passed.new.holders (told_or s.outcomes c.in-Some.told) = rw (c.in-Some.is, c.deref.ensures) at c.in_ok-told.ensures in
    let bare : is_some s.mark ≡ false = sym (has_mark-is old c.args.i s can.within c.at-segment.ensures) ∙ c.requires.bare in
    record {
      new = c.requires.may.new;
      is = (bare-over old c.args.revision.now.end.now c.args.i c.requires.may.new s l c.args.holders.now c.passed.new.holders (told_or s.outcomes c.in-Some.told) c.args.revision.now.holds.kept can.within c.at-segment.ensures bare can.way can.unused clear).0;
    }

pub recounted-requires : goal.recounted-requires
recounted-requires c =
    let s : SegmentView = c.at-segment.result in
    let old = c.args.revision.now.segments.now in
    let l = arc_value c.args.layer.now in
    let can = c.requires.may.is in
    let clear : IsClear s l c.args.holders.now c.passed.new.holders (told_or s.outcomes c.in-Some.told) = rw (c.in-Some.is, c.deref.ensures) at c.in_ok-told.ensures in
    let bare : is_some s.mark ≡ false = sym (has_mark-is old c.args.i s can.within c.at-segment.ensures) ∙ c.requires.bare in
    let both = bare-over old c.args.revision.now.end.now c.args.i c.requires.may.new s l c.args.holders.now c.passed.new.holders (told_or s.outcomes c.in-Some.told) c.args.revision.now.holds.kept can.within c.at-segment.ensures bare can.way can.unused clear in
    names-there l s c.in-Some-2.under c.args.holders.now c.passed.new.holders c.in-Some.told c.requires.may.new both.0 (rw c.in-Some-2.is at c.in_ok-under.ensures) clear

pub returns : goal.returns
returns c new can =
    let s : SegmentView = c.at-segment.result in
    let old = c.args.revision.now.segments.now in
    let l = arc_value c.args.layer.now in
    let clear : IsClear s l c.args.holders.now c.passed.new.holders (told_or s.outcomes c.in-Some.told) = rw (c.in-Some.is, c.deref.ensures) at c.in_ok-told.ensures in
    let bare : is_some s.mark ≡ false = sym (has_mark-is old c.args.i s can.within c.at-segment.ensures) ∙ c.requires.bare in
    let both = bare-over old c.args.revision.now.end.now c.args.i new s l c.args.holders.now c.passed.new.holders (told_or s.outcomes c.in-Some.told) c.args.revision.now.holds.kept can.within c.at-segment.ensures bare can.way can.unused clear in
    subst (IsPassedOver old l c.passed.new.holders c.args.i new false)
    (stands-told l s c.in-Some-2.under c.in_ok-recounted.field-0 c.in-Some.told new both.0 (rw c.in-Some-2.is at c.in_ok-under.ensures) c.in_ok-recounted.ensures) both.1
