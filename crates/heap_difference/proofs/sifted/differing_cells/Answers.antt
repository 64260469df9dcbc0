use Rattle.std.proofs.Common.{◌≡◌, ◌+◌, ◌++◌, ◌∷◌, [], ◌∙◌, sym, subst, take, get_or, List, ℕ}
use Rattle.std.proofs.lemmas.List.{take_all}
use Rattle.heap_difference.specs.Differences.{IsSameCell}
use Rattle.heap_difference.specs.Sifts.{IsSifted}
use Rattle.heap_difference.proofs.Tests.{clash}
use Rattle.heap_difference.proofs.SiftLemmas.{sift_push, sift_pass, sift_same}
use Rattle.heap_difference.proofs.sifted.differing_cells.Goals.{then-not-is_same_cell+in_ok-push, else-not-is_same_cell}
use Rattle.heap_difference.proofs.sifted.differing_cells.Goals as goal

pub loop-cell-preserved : goal.loop-cell-preserved
loop-cell-preserved c = elim c.if-not-is_same_cell.branch [
  | then-not-is_same_cell+in_ok-push w ↦
      let xs : List ℕ = c.as_slice-cell-items.result.now in
      let i : ℕ = c.loop-cell.cell-index in
      let pushed : c.if-not-is_same_cell.differing.items ≡ c.loop-cell.differing.items ++ get_or xs i 0 ∷ [] = cc (w.differing-is, w.in_ok-push.ensures.items) in
      subst (λ ys. IsSifted (IsSameCell c.args.old.now c.args.new.now) (take (i + 1) xs) ys) (sym pushed)
      (sift_push (IsSameCell c.args.old.now c.args.new.now) xs c.loop-cell.differing.items i 0 c.loop-cell-test.true
      (λ same. clash c.is_same_cell.result (c.is_same_cell.ensures.1 same) w.if-not-is_same_cell.true) c.loop-cell.invariant)
  | else-not-is_same_cell w ↦
      let xs : List ℕ = c.as_slice-cell-items.result.now in
      let i : ℕ = c.loop-cell.cell-index in
      let same : c.if-not-is_same_cell.differing.items ≡ c.loop-cell.differing.items = cc (w.differing-is) in
      subst (λ ys. IsSifted (IsSameCell c.args.old.now c.args.new.now) (take (i + 1) xs) ys) (sym same)
      (sift_pass (IsSameCell c.args.old.now c.args.new.now) xs c.loop-cell.differing.items i 0 c.loop-cell-test.true (c.is_same_cell.ensures.0 w.if-not-is_same_cell.false) c.loop-cell.invariant)
]

pub returns : goal.returns
returns c =
    sift_same (IsSameCell c.args.old.now c.args.new.now) c.args.cells.now c.loop-cell.differing.items c.of.result c.of.ensures
    (subst (λ (xs : List ℕ). IsSifted (IsSameCell c.args.old.now c.args.new.now) xs c.loop-cell.differing.items)
    (take_all c.loop-cell.cell-index c.as_slice-cell-items.result.now c.loop-cell-test.false ∙ c.as_slice-cell-items.ensures) c.loop-cell.invariant)
