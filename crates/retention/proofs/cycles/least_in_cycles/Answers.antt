use Rattle.std.proofs.Common.{◌≡◌, ◌+◌, ◌++◌, ◌∷◌, [], sym, ◌∙◌}
use Rattle.std.specs.Prelude.{filter}
use Rattle.retention.specs.Layout.{upto}
use Rattle.retention.specs.Components.{is_least_of}
use Rattle.retention.proofs.LayoutLemmas.{kept_more, left_more}
use Rattle.retention.proofs.cycles.least_in_cycles.Goals.{then-is_least+in_ok-push, else-is_least}
use Rattle.retention.proofs.cycles.least_in_cycles.Goals as goal

pub loop-index-preserved : goal.loop-index-preserved
loop-index-preserved c =
    elim c.if-is_least.branch [
      | then-is_least+in_ok-push w ↦
          let more : filter (is_least_of c.args.parts.now c.args.marks.now) (upto (c.loop-index.index + 1)) ≡ filter (is_least_of c.args.parts.now c.args.marks.now) (upto c.loop-index.index) ++ c.loop-index.index ∷ [] =
          kept_more (is_least_of c.args.parts.now c.args.marks.now) c.loop-index.index (sym c.is_least.ensures ∙ w.if-is_least.true) in
          cc (more, w.in_ok-push.ensures.items)
      | else-is_least w ↦
          let same : filter (is_least_of c.args.parts.now c.args.marks.now) (upto (c.loop-index.index + 1)) ≡ filter (is_least_of c.args.parts.now c.args.marks.now) (upto c.loop-index.index) =
          left_more (is_least_of c.args.parts.now c.args.marks.now) c.loop-index.index (sym c.is_least.ensures ∙ w.if-is_least.false) in
          cc (same, w.least-is)
    ]
