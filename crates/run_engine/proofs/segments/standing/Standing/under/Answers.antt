use Rattle.std.proofs.Common.{◌≡◌, [], ◌∷◌, sym, subst}
use Rattle.std.specs.Prelude.{IfOk, IfSome, option_map}
use Rattle.std.specs.Arc.{arc_value}
use Rattle.ownership_model.specs.State.{State}
use Rattle.run_engine.specs.SegmentView.{SegmentView}
use Rattle.run_engine.specs.inner.Blocks.{laid_over, AreSoundBelow}
use Rattle.run_engine.specs.inner.Layered.{CanStand, MayStand, standing_at}
use Rattle.run_engine.proofs.segments.standing.Standing.under.Goals as goal

-- what begins with a checkpoint that is given up
pub under-requires-clause-sound : goal.under-requires-clause-sound
under-requires-clause-sound c =
    subst (λ (s : SegmentView). AreSoundBelow (option_map arc_value c.self.inside.laid.now) (s ∷ [])) (sym c.in_ok-bare.ensures) (rw c.if-self.true at c.self.invariant)

pub under-requires-clause-may : goal.under-requires-clause-may
under-requires-clause-may c =
    let x = option_map arc_value c.self.inside.laid.now in
    let here : laid_over x c.in_ok-bare.bare ≡ c.args.self.now = rw (c.if-self.true, sym c.in_ok-bare.ensures) at c.self.view_is in
    subst (MayStand (arc_value c.args.layer.now)) (sym here) c.requires

pub returns-then-self : goal.returns-then-self
returns-then-self c =
    let x = option_map arc_value c.self.inside.laid.now in
    let here : laid_over x c.in_ok-bare.bare ≡ c.args.self.now = rw (c.if-self.true, sym c.in_ok-bare.ensures) at c.self.view_is in
    subst (λ (s : SegmentView). IfOk c.under.result (λ o. IfSome o (λ t. (new : State) → CanStand (arc_value c.args.layer.now) s new → t ≡ standing_at new s))) here
    c.under.ensures

-- what begins as it is kept
pub under-requires-2-clause-sound : goal.under-requires-2-clause-sound
under-requires-2-clause-sound c = rw c.if-self.false at c.self.invariant

pub under-requires-2-clause-may : goal.under-requires-2-clause-may
under-requires-2-clause-may c =
    let here : laid_over (option_map arc_value c.self.inside.laid.now) c.self.inside.segment.now ≡ c.args.self.now = rw c.if-self.false at c.self.view_is in
    subst (MayStand (arc_value c.args.layer.now)) (sym here) c.requires

pub returns : goal.returns
returns c =
    let here : laid_over (option_map arc_value c.self.inside.laid.now) c.self.inside.segment.now ≡ c.args.self.now = rw c.if-self.false at c.self.view_is in
    subst (λ (s : SegmentView). IfOk c.under-2.result (λ o. IfSome o (λ t. (new : State) → CanStand (arc_value c.args.layer.now) s new → t ≡ standing_at new s))) here c.under-2.ensures
