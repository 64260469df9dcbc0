-- The state in which nothing is held.
use Rattle.std.proofs.Common.{◌≡◌, ℕ, List, [], ◌∷◌, length, refl, ap, ◌∙◌, sym, subst, arith}
use Rattle.std.specs.Ordering.{nat_cmp}
use Rattle.std.specs.FinMap.{FinMap, entries, empty, get, get-empty, len-empty, len-entries}
use Rattle.trace_types.specs.declared.slots.Slot.{Slot}
use Rattle.trace_types.specs.declared.slots.Slot.TheVariants.{Strong, Weak}
use Rattle.ownership_model.specs.Totals.{total, total_in}
use Rattle.ownership_model.specs.State.{State, nothing_held, weight, holding_weight, entry_weight, names_alike, IsSound}
use Rattle.ownership_model.specs.Bounds.{IsBounded}
use Rattle.ownership_model.proofs.LawsHold.{soundness, bounds}
use Rattle.object_heap.specs.declared.counters.Counters.{Counters}
use Rattle.object_heap.specs.declared.draft.Draft.{Draft}
use Rattle.object_heap.specs.Counted.{drafted, IsCounted, IsKept}
use Rattle.object_heap.specs.TableView.{counters_at}

no_items : {A : Type 0} (xs : List A) → length xs ≡ 0 → xs ≡ []
no_items [] h = refl
no_items (x ∷ xs) h = absurd (omega arith)

entries-empty : {X : Type 0} → ◌≡◌ {A = List (ℕ × X)} (entries {R = nat_cmp} empty) []
entries-empty {X} = no_items _ (sym (len-entries {R = nat_cmp} empty) ∙ len-empty nat_cmp X)

total-empty : {X : Type 0} (w : X → ℕ) → total w empty ≡ 0
total-empty w = ap (total_in w) entries-empty

weight-nothing : (w : Slot → ℕ) → weight w nothing_held [] ≡ 0
weight-nothing w = omega (arith, total-empty (holding_weight w), total-empty w, total-empty (entry_weight w))

no_counts : (o : ℕ) → counters_at (get (empty {X = Counters} {R = nat_cmp}) o) ≡ record { strong = 0; weak = 0; ends = 0 }
no_counts o = ap counters_at (get-empty nat_cmp o)

counted_nothing : IsCounted empty nothing_held []
counted_nothing = record {
  strong_is = λ o. ap (λ (c : Counters). c.strong) (no_counts o) ∙ sym (weight-nothing (names_alike (Strong o)));
  weak_is = λ o. ap (λ (c : Counters). c.weak) (no_counts o) ∙ sym (weight-nothing (names_alike (Weak o)));
  ends_is = λ o. ap (λ (c : Counters). c.ends) (no_counts o);
}

-- a draft of nothing is that of a heap
pub kept_nothing : (d : Draft) → drafted d ≡ nothing_held → d.objects.counts ≡ empty → IsKept d
kept_nothing d held none = record {
  sound = subst (λ (m : State). IsSound m []) (sym held) soundness.start;
  bounded = subst (λ (m : State). IsBounded m) (sym held) bounds.start;
  counted = subst (λ (counts : FinMap nat_cmp Counters). IsCounted counts (drafted d) []) (sym none) (subst (λ (m : State). IsCounted empty m []) (sym held) counted_nothing);
}
