use Rattle.std.proofs.Common.{◌≡◌, ◌∙◌, true, ap, subst, sym}
use Rattle.ownership_model.specs.State.{State}
use Rattle.heap_difference.specs.Recounted.{told_or}
use Rattle.run_engine.specs.SegmentView.{SegmentView}
use Rattle.run_engine.specs.inner.Layered.{started_at, told_at}
use Rattle.run_engine.specs.inner.Untouched.{IsClear, IsPassedOver}
use Rattle.run_engine.proofs.UntouchedLemmas.{first-over}
use Rattle.run_engine.proofs.replay.parts.first_under.Goals as goal

pub returns : goal.returns
returns c =
    let s : SegmentView = c.at-segment.result in
    let old = c.args.revision.now.segments.now in
    let clear : IsClear s c.args.layer.now c.args.holders.now c.passed.new.holders (told_or s.outcomes c.in-Some.told) = rw c.in-Some.is at c.in_ok-told.ensures in
    let begun : c.in_ok-started.started ≡ started_at c.args.heap.now s = c.in_ok-started.ensures ∙ ap (λ (m : State). started_at m s) c.in_ok-share.ensures in
    let over : IsPassedOver old c.args.layer.now c.passed.new.holders c.args.i c.args.heap.now true (told_at (told_or s.outcomes c.in-Some.told) (started_at c.args.heap.now s)) =
    first-over old c.args.revision.now.end.now c.args.i c.args.heap.now s c.args.layer.now c.args.holders.now c.passed.new.holders (told_or s.outcomes c.in-Some.told) c.args.revision.now.holds.kept c.requires.within c.at-segment.ensures
    c.requires.way c.requires.unused clear in
    subst (IsPassedOver old c.args.layer.now c.passed.new.holders c.args.i c.args.heap.now true)
    (sym (c.in_ok-recounted.ensures ∙ ap (λ (u : SegmentView). told_at (told_or u.outcomes c.in-Some.told) u) begun)) over
