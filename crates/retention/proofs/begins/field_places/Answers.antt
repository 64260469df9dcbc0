use Rattle.std.proofs.Common.{◌≤◌, ◌++◌, ◌∷◌, [], sym, ap, ◌∙◌, subst}
use Rattle.retention.specs.Graph.{start_at}
use Rattle.retention.proofs.LayoutLemmas.{range_next}
use Rattle.retention.proofs.begins.field_places.Goals as goal

pub loop-place-preserved : goal.loop-place-preserved
loop-place-preserved c =
    c.in_ok-push.ensures.items ∙ ap (λ xs. xs ++ c.loop-place.place ∷ []) c.loop-place.invariant
    ∙ sym (range_next (start_at c.args.graph.now c.args.index) c.loop-place.place (subst (λ x. x ≤ c.loop-place.place) c.fields-fields.ensures.start c.loop-place.auto.place))
