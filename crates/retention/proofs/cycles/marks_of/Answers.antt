use Rattle.std.proofs.Common.{◌≡◌, ◌<◌, ◌+◌, ℕ, length, get_or, sym, ◌∙◌, subst, true, false}
use Rattle.std.specs.Prelude.{◌↔◌}
use Rattle.retention.specs.Components.{IsCyclic}
use Rattle.retention.proofs.CountLemmas.{tested_more}
use Rattle.retention.proofs.cycles.marks_of.Goals.{then-leaked-index, else-leaked-index}
use Rattle.retention.proofs.cycles.marks_of.Goals as goal

pub loop-index-preserved : goal.loop-index-preserved
loop-index-preserved c =
    let this : (c.if-leaked-index.push ≡ true) ↔ IsCyclic c.args.graph.now c.args.leaked.now c.loop-index.index =
    elim c.if-leaked-index.branch [
      | then-leaked-index w ↦ (λ e. (w.if-leaked-index.true, w.is_cyclic.ensures.0 (sym w.push-is ∙ e)), λ k. w.push-is ∙ w.is_cyclic.ensures.1 k.1)
      | else-leaked-index w ↦
          (λ e. absurd (let no : false ≡ true = sym w.if-leaked-index.false ∙ (sym w.push-is ∙ e) in cc), λ k. absurd (let no : true ≡ false = sym k.0 ∙ w.if-leaked-index.false in cc))
    ] in
    subst (λ bs. (length bs ≡ c.loop-index.index + 1) × ((i : ℕ) → i < c.loop-index.index + 1 → (get_or bs i false ≡ true) ↔ IsCyclic c.args.graph.now c.args.leaked.now i)) (sym c.in_ok-push.ensures.items)
    (tested_more (λ i. IsCyclic c.args.graph.now c.args.leaked.now i) c.loop-index.marks.items c.loop-index.index c.if-leaked-index.push c.loop-index.invariant.0 c.loop-index.invariant.1 this)
