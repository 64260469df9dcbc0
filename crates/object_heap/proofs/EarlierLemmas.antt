-- The place of a handle has the one that was made before it.
use Rattle.std.proofs.Common.{◌≡◌, ℕ, zero, suc, ◌<◌, List, [], ◌∷◌, refl, ap, ◌∙◌, sym, subst, arith, Bool, true, false}
use Rattle.std.specs.Prelude.{Option, Some, None, ◌==◌, if◌then◌else◌}
use Rattle.std.specs.Ordering.{nat_cmp}
use Rattle.std.specs.FinMap.{FinMap, get}
use Rattle.trace_types.specs.declared.slots.Scoped.{Scoped}
use Rattle.ownership_model.specs.Scopes.{scope_of, times_in}
use Rattle.ownership_model.proofs.Counting.{same_number}
use Rattle.object_heap.specs.declared.place.Place.{Place}
use Rattle.object_heap.specs.Links.{first_of, earlier_in, earlier_at, AreChained, AreLinked}
use Rattle.ownership_model.proofs.Scoping.{hit_is, own_first, times_among}
use Rattle.object_heap.proofs.LinkLemmas.{more_among}

-- the handle that stands behind this one
abbrev next_in : ℕ → List ℕ → Option ℕ
next_in q [] = None
next_in q (h ∷ hs) = if h == q then first_of hs else next_in q hs

chain_next : (places : FinMap nat_cmp Place) (t : ℕ) (later : Option ℕ) (hs : List ℕ) (q : ℕ) → AreChained places t later hs → 0 < times_among q hs → earlier_at (get places q) ≡ next_in q hs
chain_next places t later [] q c some = absurd (omega (arith, some))
chain_next places t later (h ∷ hs) q c some = elim (h == q) as (λ b. (h == q) ≡ b → earlier_at (get places q) ≡ (if b then first_of hs else next_in q hs)) [
  | true ↦ λ e. ap (λ k. earlier_at (get places k)) (sym (same_number h q e)) ∙ ap earlier_at c.0
  | false ↦ λ e. chain_next places t (Some h) hs q c.1 (omega (arith, some, hit_is h q false e))
] refl

-- a handle stands in the scope of some label, and the next there is the one made before it
record StandsIn (q : ℕ) (ss : List Scoped) : Type 0 where
  label : ℕ
  stands : 0 < times_among q (scope_of label ss)
  next : earlier_in q ss ≡ next_in q (scope_of label ss)

skipped : (q h : ℕ) (hs : List ℕ) (b : Bool) → (h == q) ≡ false → next_in q hs ≡ next_in q (if b then h ∷ hs else hs)
skipped q h hs true other = ap (λ b. if b then first_of hs else next_in q hs) (sym other)
skipped q h hs false other = refl

stands_in : (q : ℕ) (ss : List Scoped) → 0 < times_in q ss → StandsIn q ss
stands_in q [] some = absurd (omega (arith, some))
stands_in q (s ∷ ss) some = elim (s.handle == q) as (λ b. (s.handle == q) ≡ b → StandsIn q (s ∷ ss)) [
  | true ↦ λ e. record {
    label = s.label;
    stands = subst (λ hs. 0 < times_among q hs) (sym (own_first s ss)) (omega (arith, hit_is s.handle q true e));
    next = ap (λ b. if b then first_of (scope_of s.label ss) else earlier_in q ss) e
        ∙ ap (λ b. if b then first_of (scope_of s.label ss) else next_in q (scope_of s.label ss)) (sym e)
        ∙ ap (next_in q) (sym (own_first s ss));
  }
  | false ↦ λ e. let r : StandsIn q ss = stands_in q ss (omega (arith, some, hit_is s.handle q false e)) in record {
    label = r.label;
    stands = more_among q r.label s ss r.stands;
    next = ap (λ b. if b then first_of (scope_of s.label ss) else earlier_in q ss) e ∙ r.next ∙ skipped q s.handle (scope_of r.label ss) (s.label == r.label) e;
  }
] refl

none_earlier : (q : ℕ) (ss : List Scoped) → times_in q ss ≡ 0 → earlier_in q ss ≡ None
none_earlier q [] none = refl
none_earlier q (s ∷ ss) none = elim (s.handle == q) as (λ b. (s.handle == q) ≡ b → (if b then first_of (scope_of s.label ss) else earlier_in q ss) ≡ None) [
  | true ↦ λ e. absurd (omega (arith, none, hit_is s.handle q true e))
  | false ↦ λ e. none_earlier q ss (omega (arith, none, hit_is s.handle q false e))
] refl

module _ (places : FinMap nat_cmp Place) (last : FinMap nat_cmp ℕ) (ss : List Scoped) (x : AreLinked places last ss) (q : ℕ) where
  by_times : (n : ℕ) → times_in q ss ≡ n → earlier_at (get places q) ≡ earlier_in q ss
  by_times zero none = ap earlier_at (x.only q none) ∙ sym (none_earlier q ss none)
  by_times (suc n) some =
      let r : StandsIn q ss = stands_in q ss (omega (arith, some)) in
      chain_next places r.label None (scope_of r.label ss) q (x.chains r.label) r.stands ∙ sym r.next

  pub earlier_linked : earlier_at (get places q) ≡ earlier_in q ss
  earlier_linked = by_times (times_in q ss) refl
