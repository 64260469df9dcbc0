use Rattle.std.proofs.Common.{◌≡◌, ◌<◌, ◌+◌, ◌++◌, ℕ, List, [], ◌∷◌, length, get_or, set, refl, sym, ap, ◌∙◌, subst}
use Rattle.std.proofs.lemmas.List.{get_or_read}
use Rattle.retention.proofs.LayoutLemmas.{AreHeldTo, holders_more, holders_none}
use Rattle.retention.proofs.layout.holders_of.Goals.{then-target-objects+in_ok-push, else-target-objects}
use Rattle.retention.proofs.layout.holders_of.Goals as goal

pub loop-place-preserved : goal.loop-place-preserved
loop-place-preserved c =
    elim c.if-target-objects.branch [
      | then-target-objects+in_ok-push w ↦
          let within : get_or c.args.targets.now c.loop-place.place 0 < length c.loop-place.holders.items = subst (λ n. get_or c.args.targets.now c.loop-place.place 0 < n) (sym c.loop-place.invariant.long) w.if-target-objects.true in
          let old : w.index_mut-names.result.now ≡ get_or c.loop-place.holders.items (get_or c.args.targets.now c.loop-place.place 0) [] =
          get_or_read c.loop-place.holders.items (get_or c.args.targets.now c.loop-place.place 0) w.index_mut-names.result.now within w.index_mut-names.ensures.value [] in
          let new : w.push.new.self ≡ get_or c.loop-place.holders.items (get_or c.args.targets.now c.loop-place.place 0) [] ++ c.loop-place.place ∷ [] = w.in_ok-push.ensures.ok ∙ ap (λ (xs : List ℕ). xs ++ c.loop-place.place ∷ []) old in
          rw w.holders-is
          (subst (λ (xs : List ℕ). AreHeldTo c.args.objects c.args.targets.now (set c.loop-place.holders.items (get_or c.args.targets.now c.loop-place.place 0) xs) (c.loop-place.place + 1)) (sym new)
          (holders_more c.args.objects c.args.targets.now c.loop-place.holders.items c.loop-place.place (get_or c.args.targets.now c.loop-place.place 0) c.loop-place.invariant refl w.if-target-objects.true))
      | else-target-objects w ↦
          rw w.holders-is
          (holders_none c.args.objects c.args.targets.now c.loop-place.holders.items c.loop-place.place (get_or c.args.targets.now c.loop-place.place 0) c.loop-place.invariant refl w.if-target-objects.false)
    ]
