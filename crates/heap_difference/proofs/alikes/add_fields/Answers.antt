use Rattle.std.proofs.Common.{◌≡◌, ◌+◌, ◌++◌, ◌∷◌, [], ◌<◌, length, take, get_or, sym, refl, subst, List, ℕ, rules, arith}
use Rattle.trace_types.specs.declared.slots.Slot.{Slot}
use Rattle.trace_types.specs.declared.slots.Slot.TheVariants.{Nothing}
use Rattle.object_heap.specs.declared.put.FieldPut.{FieldPut}
use Rattle.heap_difference.specs.Alikes.{AreAdded}
use Rattle.heap_difference.proofs.AlikeLemmas.{added_same, added_put}
use Rattle.heap_difference.proofs.alikes.add_fields.Goals.{then-ne+in_ok-push, else-ne}
use Rattle.heap_difference.proofs.alikes.add_fields.Goals as goal

pub loop-index-preserved : goal.loop-index-preserved
loop-index-preserved c =
    let before : List Slot = c.args.before.now in
    let fields : List Slot = c.args.fields.now in
    let i : ℕ = c.loop-index.index in
    let first : i < length before = omega (arith, c.requires.as_many, c.loop-index-test.true) in
    elim c.if-ne.branch [
      | then-ne+in_ok-push w ↦
          let put : FieldPut = record { object = c.args.object; index = i; slot = get_or fields i Nothing } in
          let pushed : c.if-ne.list.items ≡ c.loop-index.list.items ++ put ∷ [] = cc (w.list-is, w.in_ok-push.ensures.items) in
          let other : get_or before i Nothing ≡ get_or fields i Nothing → ⊥ = search rules in
          subst (λ (ps : List FieldPut). AreAdded c.args.object (take (i + 1) before) (take (i + 1) fields) c.args.list.now.items ps) (sym pushed)
          (added_put c.args.object before fields i Nothing c.args.list.now.items c.loop-index.list.items put first c.loop-index-test.true refl refl refl other c.loop-index.invariant)
      | else-ne w ↦
          let kept : c.if-ne.list.items ≡ c.loop-index.list.items = cc (w.list-is) in
          let same : get_or before i Nothing ≡ get_or fields i Nothing = search rules in
          subst (λ (ps : List FieldPut). AreAdded c.args.object (take (i + 1) before) (take (i + 1) fields) c.args.list.now.items ps) (sym kept)
          (added_same c.args.object before fields i Nothing c.args.list.now.items c.loop-index.list.items first c.loop-index-test.true same c.loop-index.invariant)
    ]
