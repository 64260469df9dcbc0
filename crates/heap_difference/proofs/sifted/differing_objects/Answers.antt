use Rattle.std.proofs.Common.{◌≡◌, ◌+◌, ◌++◌, ◌∷◌, [], ◌∙◌, sym, subst, take, get_or, List, ℕ}
use Rattle.std.proofs.lemmas.List.{take_all}
use Rattle.heap_difference.specs.Differences.{IsSameObject}
use Rattle.heap_difference.specs.Sifts.{IsSifted}
use Rattle.heap_difference.proofs.Tests.{clash}
use Rattle.heap_difference.proofs.SiftLemmas.{sift_push, sift_pass, sift_same}
use Rattle.heap_difference.proofs.sifted.differing_objects.Goals.{then-not-is_same_object+in_ok-push, else-not-is_same_object}
use Rattle.heap_difference.proofs.sifted.differing_objects.Goals as goal

pub loop-object-preserved : goal.loop-object-preserved
loop-object-preserved c = elim c.if-not-is_same_object.branch [
  | then-not-is_same_object+in_ok-push w ↦
      let xs : List ℕ = c.as_slice-object-items.result.now in
      let i : ℕ = c.loop-object.object-index in
      let pushed : c.if-not-is_same_object.differing.items ≡ c.loop-object.differing.items ++ get_or xs i 0 ∷ [] = cc (w.differing-is, w.in_ok-push.ensures.items) in
      subst (λ ys. IsSifted (IsSameObject c.args.old.now c.args.new.now) (take (i + 1) xs) ys) (sym pushed)
      (sift_push (IsSameObject c.args.old.now c.args.new.now) xs c.loop-object.differing.items i 0 c.loop-object-test.true
      (λ same. clash c.is_same_object.result (c.is_same_object.ensures.1 same) w.if-not-is_same_object.true) c.loop-object.invariant)
  | else-not-is_same_object w ↦
      let xs : List ℕ = c.as_slice-object-items.result.now in
      let i : ℕ = c.loop-object.object-index in
      let same : c.if-not-is_same_object.differing.items ≡ c.loop-object.differing.items = cc (w.differing-is) in
      subst (λ ys. IsSifted (IsSameObject c.args.old.now c.args.new.now) (take (i + 1) xs) ys) (sym same)
      (sift_pass (IsSameObject c.args.old.now c.args.new.now) xs c.loop-object.differing.items i 0 c.loop-object-test.true (c.is_same_object.ensures.0 w.if-not-is_same_object.false) c.loop-object.invariant)
]

pub returns : goal.returns
returns c =
    sift_same (IsSameObject c.args.old.now c.args.new.now) c.args.objects.now c.loop-object.differing.items c.of.result c.of.ensures
    (subst (λ (xs : List ℕ). IsSifted (IsSameObject c.args.old.now c.args.new.now) xs c.loop-object.differing.items)
    (take_all c.loop-object.object-index c.as_slice-object-items.result.now c.loop-object-test.false ∙ c.as_slice-object-items.ensures) c.loop-object.invariant)
