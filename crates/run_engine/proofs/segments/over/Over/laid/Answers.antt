use Rattle.std.proofs.Common.{◌≡◌, ap, subst, sym, ◌∙◌}
use Rattle.agreement.specs.Laid.{with_laid}
use Rattle.heap_difference.specs.Layers.{LayerView, CanBeLaidBy}
use Rattle.run_engine.specs.inner.Layered.{OverView, with_over}
use Rattle.run_engine.proofs.segments.over.Over.laid.Goals as goal

pub laid-requires : goal.laid-requires
laid-requires c =
    let can : CanBeLaidBy c.args.self.now.layer (with_laid c.args.self.now.below c.args.heap) = record { state = with_over c.args.self.now c.args.heap; is = c.requires.makes.laid } in
    let layer : c.deref.result.now ≡ c.args.self.now.layer = c.deref.ensures ∙ ap (λ (o : OverView). o.layer) c.self.view_is in
    let below : c.in_ok-below.below ≡ with_laid c.args.self.now.below c.args.heap = c.in_ok-below.ensures ∙ ap (λ x. with_laid x c.args.heap) (c.laid_in.ensures ∙ ap (λ (o : OverView). o.below) c.self.view_is) in
    subst (CanBeLaidBy c.deref.result.now) (sym below) (subst (λ (l : LayerView). CanBeLaidBy l (with_laid c.args.self.now.below c.args.heap)) (sym layer) can)
