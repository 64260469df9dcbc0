use Rattle.std.proofs.Common.{◌≡◌, sym, subst, ◌∙◌}
use Rattle.std.specs.Prelude.{IfSome, option_map}
use Rattle.std.specs.Arc.{arc_value}
use Rattle.ownership_model.specs.State.{State}
use Rattle.agreement.specs.Laid.{with_laid, IsSoundWith}
use Rattle.run_engine.specs.SegmentView.{SegmentView}
use Rattle.run_engine.specs.inner.Blocks.{laid_over}
use Rattle.run_engine.specs.inner.Layered.{with_all, Makes, IsOver, CanStand, standing_at}
use Rattle.run_engine.specs.inner.Touching.{shared_keys}
use Rattle.run_engine.proofs.LayeredLemmas.{StandsOver, stands-over, stands-bare, stands-exchanged, sound-mark, laid-marks}
use Rattle.run_engine.proofs.segments.segment.Segment.under.Goals as goal

-- the layer lies over those that stay
over : (c : goal.After-result-3-1) → IsOver c.self.inside.cover (option_map arc_value c.args.exchange.now) (arc_value c.args.layer.now) c.in-Some.cover
over c = subst (λ o. IfSome o (IsOver c.self.inside.cover (option_map arc_value c.args.exchange.now) (arc_value c.args.layer.now))) c.in-Some.is c.in_ok-cover.ensures

-- they make the new state of the checkpoint that is kept
mark-over : (c : goal.After-result-3-1) → (new : State) → CanStand (arc_value c.args.layer.now) (laid_over (option_map arc_value c.args.exchange.now) c.args.self.now) new → StandsOver c.self.inside.cover c.in-Some.cover (option_map arc_value c.self.inside.mark) new
mark-over c new can =
    let x = option_map arc_value c.args.exchange.now in
    stands-over c.self.inside.cover c.in-Some.cover x (arc_value c.args.layer.now) (option_map arc_value c.self.inside.mark) new (over c)
    c.self.invariant.2
    (subst (λ (s : SegmentView). IfSome s.mark (IsSoundWith x)) (sym c.self.view_is) (sound-mark x c.args.self.now c.requires.sound).0)
    (subst (λ (s : SegmentView). IfSome (option_map (with_laid x) s.mark) (Makes (arc_value c.args.layer.now) new)) (sym c.self.view_is) (laid-marks x (arc_value c.args.layer.now) c.args.self.now new can).0)

-- and of the anchor
anchor-over : (c : goal.After-result-3-1) → (new : State) → CanStand (arc_value c.args.layer.now) (laid_over (option_map arc_value c.args.exchange.now) c.args.self.now) new → StandsOver c.self.inside.cover c.in-Some.cover (option_map arc_value c.self.inside.anchor) new
anchor-over c new can =
    let x = option_map arc_value c.args.exchange.now in
    stands-over c.self.inside.cover c.in-Some.cover x (arc_value c.args.layer.now) (option_map arc_value c.self.inside.anchor) new (over c)
    c.self.invariant.3
    (subst (λ (s : SegmentView). IfSome s.anchor (IsSoundWith x)) (sym c.self.view_is) (sound-mark x c.args.self.now c.requires.sound).1)
    (subst (λ (s : SegmentView). IfSome (option_map (with_laid x) s.anchor) (Makes (arc_value c.args.layer.now) new)) (sym c.self.view_is) (laid-marks x (arc_value c.args.layer.now) c.args.self.now new can).1)

pub invariant_of-result : goal.invariant_of-result
invariant_of-result c =
    rw (c.in_ok-share_of.ensures, c.in_ok-share_of-2.ensures, c.cover.view_is, c.in_ok-try_clone.ensures, c.in_ok-keys_of.ensures, c.in_ok-shared_filter.ensures)
    (c.self.invariant.0, c.self.invariant.1, (mark-over c c.requires.may.new c.requires.may.is).below, (anchor-over c c.requires.may.new c.requires.may.is).below, c.self.invariant.4)

pub returns : goal.returns
returns c = λ new can.
    rw (c.in_ok-share_of.ensures, c.in_ok-share_of-2.ensures, c.in_ok-try_clone.ensures, c.in_ok-keys_of.ensures, c.cover.view_is)
    (subst (λ (s : SegmentView). record {
      mark = option_map (with_all c.in-Some.cover) (option_map arc_value c.self.inside.mark);
      anchor = option_map (with_all c.in-Some.cover) (option_map arc_value c.self.inside.anchor);
      keys = shared_keys c.self.inside.keys;
      ops = (arc_value (arc_value c.self.inside.body).ops).items;
      outcomes = (arc_value c.self.inside.body).outcomes;
    } ≡ standing_at new s) c.self.view_is
    (λ i. record {
      mark = (mark-over c new can).is i;
      anchor = (anchor-over c new can).is i;
      keys = shared_keys c.self.inside.keys;
      ops = (arc_value (arc_value c.self.inside.body).ops).items;
      outcomes = (arc_value c.self.inside.body).outcomes;
    }))
    ∙ sym (stands-exchanged (option_map arc_value c.args.exchange.now) new c.args.self.now)

-- where no heap is kept it stands as it is
pub returns-then-not-has_heap : goal.returns-then-not-has_heap
returns-then-not-has_heap c = λ new can.
    let none = c.has_heap.ensures c.if-not-has_heap.true in
    c.in_ok-share.ensures ∙ stands-bare new c.args.self.now none.0 none.1 ∙ sym (stands-exchanged (option_map arc_value c.args.exchange.now) new c.args.self.now)
