use Rattle.std.proofs.Common.{◌++◌, ◌∷◌, [], sym, ap, ◌∙◌}
use Rattle.retention.proofs.LayoutLemmas.{upto_more}
use Rattle.retention.proofs.begins.root_places.Goals as goal

pub loop-place-preserved : goal.loop-place-preserved
loop-place-preserved c = c.in_ok-push.ensures.items ∙ ap (λ xs. xs ++ c.loop-place.place ∷ []) c.loop-place.invariant ∙ sym (upto_more c.loop-place.place)
