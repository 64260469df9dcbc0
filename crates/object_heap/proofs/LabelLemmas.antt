-- The place of a handle has the label in whose scope it stands.
use Rattle.std.proofs.Common.{◌≡◌, ℕ, zero, suc, ◌<◌, List, [], ◌∷◌, refl, ap, ◌∙◌, sym, subst, arith, true, false}
use Rattle.std.specs.Prelude.{Option, Some, None, ◌==◌, if◌then◌else◌}
use Rattle.std.specs.Ordering.{nat_cmp}
use Rattle.std.specs.FinMap.{FinMap, get}
use Rattle.trace_types.specs.declared.slots.Scoped.{Scoped}
use Rattle.ownership_model.specs.Scopes.{scope_of, times_in}
use Rattle.ownership_model.proofs.Counting.{same_number}
use Rattle.object_heap.specs.declared.place.Place.{Place}
use Rattle.object_heap.specs.Links.{label_in, label_at, AreChained, AreLinked}
use Rattle.ownership_model.proofs.Scoping.{hit_is, own_first, times_among}
use Rattle.object_heap.proofs.LinkLemmas.{more_among}

chain_names : (places : FinMap nat_cmp Place) (t : ℕ) (later : Option ℕ) (hs : List ℕ) (q : ℕ) → AreChained places t later hs → 0 < times_among q hs → label_at (get places q) ≡ Some t
chain_names places t later [] q c some = absurd (omega (arith, some))
chain_names places t later (h ∷ hs) q c some = elim (h == q) as (λ b. (h == q) ≡ b → label_at (get places q) ≡ Some t) [
  | true ↦ λ e. ap (λ k. label_at (get places k)) (sym (same_number h q e)) ∙ ap label_at c.0
  | false ↦ λ e. chain_names places t (Some h) hs q c.1 (omega (arith, some, hit_is h q false e))
] refl

-- a handle stands in the scope of some label
record StandsAt (q : ℕ) (ss : List Scoped) : Type 0 where
  label : ℕ
  stands : 0 < times_among q (scope_of label ss)
  is : label_in q ss ≡ Some label

stands_at : (q : ℕ) (ss : List Scoped) → 0 < times_in q ss → StandsAt q ss
stands_at q [] some = absurd (omega (arith, some))
stands_at q (s ∷ ss) some = elim (s.handle == q) as (λ b. (s.handle == q) ≡ b → StandsAt q (s ∷ ss)) [
  | true ↦ λ e. record {
    label = s.label;
    stands = subst (λ hs. 0 < times_among q hs) (sym (own_first s ss)) (omega (arith, hit_is s.handle q true e));
    is = ap (λ b. if b then Some s.label else label_in q ss) e;
  }
  | false ↦ λ e. let r : StandsAt q ss = stands_at q ss (omega (arith, some, hit_is s.handle q false e)) in record {
    label = r.label;
    stands = more_among q r.label s ss r.stands;
    is = ap (λ b. if b then Some s.label else label_in q ss) e ∙ r.is;
  }
] refl

none_named : (q : ℕ) (ss : List Scoped) → times_in q ss ≡ 0 → label_in q ss ≡ None
none_named q [] none = refl
none_named q (s ∷ ss) none = elim (s.handle == q) as (λ b. (s.handle == q) ≡ b → (if b then Some s.label else label_in q ss) ≡ None) [
  | true ↦ λ e. absurd (omega (arith, none, hit_is s.handle q true e))
  | false ↦ λ e. none_named q ss (omega (arith, none, hit_is s.handle q false e))
] refl

module _ (places : FinMap nat_cmp Place) (last : FinMap nat_cmp ℕ) (ss : List Scoped) (x : AreLinked places last ss) (q : ℕ) where
  by_times : (n : ℕ) → times_in q ss ≡ n → label_at (get places q) ≡ label_in q ss
  by_times zero none = ap label_at (x.only q none) ∙ sym (none_named q ss none)
  by_times (suc n) some =
      let r : StandsAt q ss = stands_at q ss (omega (arith, some)) in
      chain_names places r.label None (scope_of r.label ss) q (x.chains r.label) r.stands ∙ sym r.is

  pub label_linked : label_at (get places q) ≡ label_in q ss
  label_linked = by_times (times_in q ss) refl
