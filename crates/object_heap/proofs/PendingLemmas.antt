-- One item more is pending, after the others.
use Rattle.std.proofs.Common.{◌≡◌, ℕ, ◌+◌, List, [], ◌∷◌, ◌++◌, refl, ap, ◌∙◌, arith, Bool, true, false}
use Rattle.std.specs.Prelude.{◌==◌, if◌then◌else◌}
use Rattle.std.specs.Ordering.{nat_cmp}
use Rattle.std.specs.FinMap.{FinMap, get}
use Rattle.trace_types.specs.declared.slots.Slot.{Slot}
use Rattle.trace_types.specs.declared.slots.Slot.TheVariants.{Strong, Weak}
use Rattle.trace_types.specs.declared.slots.Item.{Item}
use Rattle.trace_types.specs.declared.slots.Item.TheVariants as item
use Rattle.ownership_model.specs.State.{State, names_alike, items_weight, ends}
use Rattle.ownership_model.proofs.Counting.{same_number}
use Rattle.object_heap.specs.declared.counters.Counters.{Counters}
use Rattle.object_heap.specs.Counted.{IsCounted}
use Rattle.object_heap.specs.TableView.{counters_at}
use Rattle.object_heap.specs.Gains.{IsSetAt, CountsMore, CountsItem}
use Rattle.object_heap.proofs.GainLemmas.{chosen}

items_weight-append : (w : Slot → ℕ) (xs ys : List Item) → items_weight w (xs ++ ys) ≡ items_weight w xs + items_weight w ys
items_weight-append w [] ys = omega arith
items_weight-append w (item.Slot s ∷ xs) ys = omega (arith, items_weight-append w xs ys)
items_weight-append w (item.End o ∷ xs) ys = items_weight-append w xs ys

add_first : (n a b c : ℕ) → a ≡ b + c → n + a ≡ (n + b) + c
add_first n a b c h = omega (arith, h)

ends-append : (o : ℕ) (xs ys : List Item) → ends o (xs ++ ys) ≡ ends o xs + ends o ys
ends-append o [] ys = omega arith
ends-append o (item.Slot s ∷ xs) ys = ends-append o xs ys
ends-append o (item.End q ∷ xs) ys = add_first (if q == o then 1 else 0) (ends o (xs ++ ys)) (ends o xs) (ends o ys) (ends-append o xs ys)

pub counted_push : (counts more : FinMap nat_cmp Counters) (m : State) (pending : List Item) (x : Item) → IsCounted counts m pending → CountsItem counts more x → IsCounted more m (pending ++ x ∷ [])
counted_push counts more m pending x counted has = record {
  strong_is = λ o. omega (arith, has.strong_is o, counted.strong_is o, items_weight-append (names_alike (Strong o)) pending (x ∷ []));
  weak_is = λ o. omega (arith, has.weak_is o, counted.weak_is o, items_weight-append (names_alike (Weak o)) pending (x ∷ []));
  ends_is = λ o. omega (arith, has.ends_is o, counted.ends_is o, ends-append o pending (x ∷ []));
}

pub counts_slot : (less more : FinMap nat_cmp Counters) (s : Slot) → CountsMore less more (λ w. w s) → CountsItem less more (item.Slot s)
counts_slot less more s has = record {
  strong_is = λ o. omega (arith, has.strong_is o);
  weak_is = λ o. omega (arith, has.weak_is o);
  ends_is = λ o. omega (arith, has.ends_is o);
}

one_end : (b : Bool) (c old : Counters) → (b ≡ true → c.ends ≡ 1 + old.ends) → (if b then c else old).ends ≡ ((if b then 1 else 0) + 0) + old.ends
one_end true c old p = omega (arith, p refl)
one_end false c old p = omega arith

pub counts_end : (less more : FinMap nat_cmp Counters) (o : ℕ) (c : Counters) → IsSetAt less more o c
    → c.strong ≡ (counters_at (get less o)).strong → c.weak ≡ (counters_at (get less o)).weak → c.ends ≡ 1 + (counters_at (get less o)).ends → CountsItem less more (item.End o)
counts_end less more o c set s w e = record {
  strong_is = λ p. ap (λ (v : Counters). v.strong) (set p)
      ∙ chosen (λ v. v.strong) (o == p) c (counters_at (get less p)) (0 + (counters_at (get less p)).strong) (λ t. s ∙ ap (λ q. (counters_at (get less q)).strong) (same_number o p t) ∙ omega arith) (λ f. omega arith);
  weak_is = λ p. ap (λ (v : Counters). v.weak) (set p)
      ∙ chosen (λ v. v.weak) (o == p) c (counters_at (get less p)) (0 + (counters_at (get less p)).weak) (λ t. w ∙ ap (λ q. (counters_at (get less q)).weak) (same_number o p t) ∙ omega arith) (λ f. omega arith);
  ends_is = λ p. ap (λ (v : Counters). v.ends) (set p)
      ∙ one_end (o == p) c (counters_at (get less p)) (λ t. e ∙ ap (λ q. 1 + (counters_at (get less q)).ends) (same_number o p t));
}
