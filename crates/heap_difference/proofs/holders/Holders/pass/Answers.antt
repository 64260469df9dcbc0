use Rattle.std.proofs.Common.{◌≡◌, ◌∙◌, ◌++◌, ap, sym, subst, take, inl, inr, List}
use Rattle.std.proofs.lemmas.List.{take_more, take_all}
use Rattle.ownership_model.specs.declared.key.Key.{Key}
use Rattle.ownership_model.specs.declared.key.Key.TheVariants.{Handle}
use Rattle.heap_difference.specs.KeySets.{set_of}
use Rattle.heap_difference.specs.Naming.{with_sets}
use Rattle.heap_difference.proofs.Tests.{clash}
use Rattle.heap_difference.proofs.HolderLemmas.{AreCounted, counted_next, left_beside}
use Rattle.heap_difference.proofs.holders.Holders.pass.Goals as goal

pub loop-key-preserved : goal.loop-key-preserved
loop-key-preserved c =
    let keys : List Key = c.deref-key-items.result.now in
    let i = c.loop-key.key-index in
    subst (λ (xs : List Key). AreCounted xs c.args.from.now c.args.self.now c.count_once.new.self) (sym (take_more keys i (Handle 0) c.loop-key-test.true))
    (counted_next (take i keys) _ c.args.from.now c.args.self.now c.loop-key.self c.count_once.new.self c.loop-key.invariant c.in_ok-count_once.ensures)

-- all that the operations may set is counted off
done : (c : goal.After-drop-keys-2) → AreCounted (with_sets c.args.told.now c.args.ops.now c.args.outcomes.now) c.args.from.now c.args.self.now c.loop-key.self
done c =
    let all : List Key = with_sets c.args.told.now c.args.ops.now c.args.outcomes.now in
    let listed : take c.loop-key.key-index c.deref-key-items.result.now ≡ all = take_all c.loop-key.key-index c.deref-key-items.result.now c.loop-key-test.false ∙ c.deref-key-items.ensures.value ∙ c.in_ok-add_sets.ensures ∙ ap (λ xs. xs ++ all) c.in_ok-keys.ensures.items in
    subst (λ (xs : List Key). AreCounted xs c.args.from.now c.args.self.now c.loop-key.self) listed c.loop-key.invariant

pub returns-clause-passed : goal.returns-clause-passed
returns-clause-passed c = λ t before may. inr (record { counted = (done c).counted t before; left = c.are_left.ensures.0 may; objects = (done c).objects; items = (done c).items })

pub returns-clause-must : goal.returns-clause-must
returns-clause-must c = λ t before must. elim must [
  | inl none ↦ absurd (clash c.touches_all.result c.if-not-touches_all.false (c.touches_all.ensures ∙ none))
  | inr named ↦ c.are_left.ensures.1
      (left_beside (set_of (with_sets c.args.told.now c.args.ops.now c.args.outcomes.now)) c.args.from.now c.args.self.now c.loop-key.self _ ((done c).counted t before) (done c).no_more (done c).items named)
]

pub returns-clause-no_more : goal.returns-clause-no_more
returns-clause-no_more c = (done c).no_more
