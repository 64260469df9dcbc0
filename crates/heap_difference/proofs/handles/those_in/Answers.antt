use Rattle.std.proofs.Common.{◌≡◌, ◌+◌, ◌++◌, ◌∷◌, [], ◌∙◌, sym, subst, take, get_or, List, ℕ, false}
use Rattle.std.specs.Ordering.{nat_cmp}
use Rattle.std.specs.BTreeSet.{contains}
use Rattle.std.proofs.lemmas.List.{take_all}
use Rattle.heap_difference.specs.Sifts.{IsSifted}
use Rattle.heap_difference.proofs.Tests.{clash}
use Rattle.heap_difference.proofs.SiftLemmas.{sift_push, sift_pass, sift_same}
use Rattle.heap_difference.proofs.handles.those_in.Goals.{then-contains+in_ok-push, else-contains}
use Rattle.heap_difference.proofs.handles.those_in.Goals as goal

pub loop-number-preserved : goal.loop-number-preserved
loop-number-preserved c = elim c.if-contains.branch [
  | then-contains+in_ok-push w ↦
      let xs : List ℕ = c.as_slice-number-items.result.now in
      let i : ℕ = c.loop-number.number-index in
      let pushed : c.if-contains.rest.items ≡ c.loop-number.rest.items ++ get_or xs i 0 ∷ [] = cc (w.rest-is, w.in_ok-push.ensures.items) in
      subst (λ ys. IsSifted (λ q. contains nat_cmp c.args.set.now q ≡ false) (take (i + 1) xs) ys) (sym pushed)
      (sift_push (λ q. contains nat_cmp c.args.set.now q ≡ false) xs c.loop-number.rest.items i 0 c.loop-number-test.true
      (λ none. clash (contains nat_cmp c.args.set.now (get_or xs i 0)) (sym c.contains.ensures ∙ w.if-contains.true) none) c.loop-number.invariant)
  | else-contains w ↦
      let xs : List ℕ = c.as_slice-number-items.result.now in
      let i : ℕ = c.loop-number.number-index in
      let same : c.if-contains.rest.items ≡ c.loop-number.rest.items = cc (w.rest-is) in
      subst (λ ys. IsSifted (λ q. contains nat_cmp c.args.set.now q ≡ false) (take (i + 1) xs) ys) (sym same)
      (sift_pass (λ q. contains nat_cmp c.args.set.now q ≡ false) xs c.loop-number.rest.items i 0 c.loop-number-test.true (sym c.contains.ensures ∙ w.if-contains.false) c.loop-number.invariant)
]

pub returns : goal.returns
returns c =
    sift_same (λ q. contains nat_cmp c.args.set.now q ≡ false) c.args.numbers.now c.loop-number.rest.items c.of.result c.of.ensures
    (subst (λ (xs : List ℕ). IsSifted (λ q. contains nat_cmp c.args.set.now q ≡ false) xs c.loop-number.rest.items)
    (take_all c.loop-number.number-index c.as_slice-number-items.result.now c.loop-number-test.false ∙ c.as_slice-number-items.ensures) c.loop-number.invariant)
