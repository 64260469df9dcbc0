use Rattle.std.proofs.Common.{◌≡◌, ◌+◌, ◌++◌, ◌∷◌, [], sym, ◌∙◌}
use Rattle.std.specs.Prelude.{filter}
use Rattle.retention.specs.Layout.{upto}
use Rattle.retention.specs.Graph.{is_field_of}
use Rattle.retention.proofs.LayoutLemmas.{kept_more, left_more}
use Rattle.retention.proofs.begins.marked_fields.Goals.{then-is_marked+in_ok-push, else-is_marked}
use Rattle.retention.proofs.begins.marked_fields.Goals as goal

pub loop-place-preserved : goal.loop-place-preserved
loop-place-preserved c =
    elim c.if-is_marked.branch [
      | then-is_marked+in_ok-push w ↦
          let more : filter (is_field_of c.args.graph.now c.args.marks.now) (upto (c.loop-place.place + 1)) ≡ filter (is_field_of c.args.graph.now c.args.marks.now) (upto c.loop-place.place) ++ c.loop-place.place ∷ [] =
          kept_more (is_field_of c.args.graph.now c.args.marks.now) c.loop-place.place (sym c.is_marked.ensures ∙ w.if-is_marked.true) in
          cc (more, w.in_ok-push.ensures.items)
      | else-is_marked w ↦
          let same : filter (is_field_of c.args.graph.now c.args.marks.now) (upto (c.loop-place.place + 1)) ≡ filter (is_field_of c.args.graph.now c.args.marks.now) (upto c.loop-place.place) =
          left_more (is_field_of c.args.graph.now c.args.marks.now) c.loop-place.place (sym c.is_marked.ensures ∙ w.if-is_marked.false) in
          cc (same, w.begins-is)
    ]
