-- Of two neighbours in a scope each has the other as its own.
use Rattle.std.proofs.Common.{◌≡◌, ℕ, zero, suc, ◌<◌, List, [], ◌∷◌, refl, ap, ◌∙◌, sym, subst, arith, Bool, true, false}
use Rattle.std.specs.Prelude.{Option, Some, None, ◌==◌}
use Rattle.std.specs.Ordering.{nat_cmp}
use Rattle.std.specs.FinMap.{FinMap, get}
use Rattle.trace_types.specs.declared.slots.Scoped.{Scoped}
use Rattle.ownership_model.specs.Scopes.{scope_of, times_in}
use Rattle.ownership_model.proofs.Counting.{same_number}
use Rattle.object_heap.specs.declared.place.Place.{Place}
use Rattle.object_heap.specs.Links.{first_of, AreChained, AreLinked}
use Rattle.ownership_model.proofs.Scoping.{hit_is, itself, times_among}
use Rattle.object_heap.proofs.LinkLemmas.{in_scope, some_eq}

-- whether a link goes to this handle
abbrev pub is_at : Option ℕ → ℕ → Bool
is_at None q = false
is_at (Some e) q = e == q

both_ways : (b c : Bool) → (b ≡ true → c ≡ true) → (c ≡ true → b ≡ true) → b ≡ c
both_ways true true p q = refl
both_ways true false p q = sym (p refl)
both_ways false true p q = q refl
both_ways false false p q = refl

named : (o : Option ℕ) (q : ℕ) → is_at o q ≡ true → o ≡ Some q
named None q is = absurd cc
named (Some e) q is = ap (λ n. Some n) (same_number e q is)

named_at : (o : Option ℕ) (q : ℕ) → o ≡ Some q → is_at o q ≡ true
named_at o q is = ap (λ (z : Option ℕ). is_at z q) is ∙ itself q

not_both : (o : Option Place) (p : Place) → o ≡ Some p → o ≡ None → ⊥
not_both o p some none = absurd cc

module _ (places : FinMap nat_cmp Place) where
  -- the place that a chain gives its first handle
  pub first_place : (t e q : ℕ) (later : Option ℕ) (hs : List ℕ) (p : Place) → AreChained places t later (e ∷ hs) → (e == q) ≡ true → get places q ≡ Some p → p ≡ record { label = t; earlier = first_of hs; later = later }
  first_place t e q later hs p c is there = some_eq p (record { label = t; earlier = first_of hs; later = later }) (sym there ∙ ap (get places) (sym (same_number e q is)) ∙ c.0)

  second_place : (t e q : ℕ) (hs : List ℕ) (p : Place) → AreChained places t (Some e) hs → first_of hs ≡ Some q → get places q ≡ Some p → p.later ≡ Some e
  second_place t e q [] p c is there = absurd cc
  second_place t e q (r ∷ rs) p c is there = ap (λ (z : Place). z.later) (first_place t r q (Some e) rs p c (named_at (Some r) q is) there)

  -- the one before a handle has it after itself
  comes_after : (t h q : ℕ) (later : Option ℕ) (hs : List ℕ) (x p : Place) → AreChained places t later hs → 0 < times_among h hs → get places h ≡ Some x → get places q ≡ Some p → x.earlier ≡ Some q → p.later ≡ Some h
  comes_after t h q later [] x p c some here there is = absurd (omega (arith, some))
  comes_after t h q later (e ∷ hs) x p c some here there is = elim (e == h) as (λ b. (e == h) ≡ b → p.later ≡ Some h) [
    | true ↦ λ same.
        second_place t e q hs p c.1 (sym (ap (λ (z : Place). z.earlier) (first_place t e h later hs x c same here)) ∙ is) there ∙ ap (λ n. Some n) (same_number e h same)
    | false ↦ λ other. comes_after t h q (Some e) hs x p c.1 (omega (arith, some, hit_is e h false other)) here there is
  ] refl

  -- and the one after a handle has it before itself
  comes_before : (t h q : ℕ) (later : Option ℕ) (hs : List ℕ) (x p : Place) → AreChained places t later hs → ((z : ℕ) (y : Place) → later ≡ Some z → get places z ≡ Some y → y.earlier ≡ first_of hs)
      → 0 < times_among q hs → get places h ≡ Some x → get places q ≡ Some p → p.later ≡ Some h → x.earlier ≡ Some q
  comes_before t h q later [] x p c before some here there is = absurd (omega (arith, some))
  comes_before t h q later (e ∷ hs) x p c before some here there is = elim (e == q) as (λ b. (e == q) ≡ b → x.earlier ≡ Some q) [
    | true ↦ λ same.
        before h x (sym (ap (λ (z : Place). z.later) (first_place t e q later hs p c same there)) ∙ is) here ∙ ap (λ n. Some n) (same_number e q same)
    | false ↦ λ other.
        comes_before t h q (Some e) hs x p c.1
        (λ z y one place. ap (λ (w : Place). w.earlier) (first_place t e z later hs y c (named_at (Some e) z one) place))
        (omega (arith, some, hit_is e q false other)) here there is
  ] refl

  -- a handle of a chain has a place, with its label
  chain_label : (t h : ℕ) (later : Option ℕ) (hs : List ℕ) (x : Place) → AreChained places t later hs → 0 < times_among h hs → get places h ≡ Some x → x.label ≡ t
  chain_label t h later [] x c some here = absurd (omega (arith, some))
  chain_label t h later (e ∷ hs) x c some here = elim (e == h) as (λ b. (e == h) ≡ b → x.label ≡ t) [
    | true ↦ λ same. ap (λ (z : Place). z.label) (first_place t e h later hs x c same here)
    | false ↦ λ other. chain_label t h (Some e) hs x c.1 (omega (arith, some, hit_is e h false other)) here
  ] refl

  -- behind its first handle a chain has none that is the last
  pub not_last : (t e h : ℕ) (hs : List ℕ) (x : Place) → AreChained places t (Some e) hs → 0 < times_among h hs → get places h ≡ Some x → x.later ≡ None → ⊥
  not_last t e h [] x c some here none = absurd (omega (arith, some))
  not_last t e h (r ∷ rs) x c some here none = elim (r == h) as (λ b. (r == h) ≡ b → ⊥) [
    | true ↦ λ same. let both : Some e ≡ None = sym (ap (λ (z : Place). z.later) (first_place t r h (Some e) rs x c same here)) ∙ none in absurd cc
    | false ↦ λ other. not_last t r h rs x c.1 (omega (arith, some, hit_is r h false other)) here none
  ] refl

module _ (places : FinMap nat_cmp Place) (last : FinMap nat_cmp ℕ) (ss : List Scoped) (linked : AreLinked places last ss) where
  -- a handle with a place stands in the scope of a label
  placed : (h n : ℕ) (x : Place) → times_in h ss ≡ n → get places h ≡ Some x → (t : ℕ) × (0 < times_among h (scope_of t ss))
  placed h zero x is here = absurd (not_both (get places h) x here (linked.only h is))
  placed h (suc n) x is here = in_scope h ss (omega (arith, is))

  pub own_scope : (h : ℕ) (x : Place) → get places h ≡ Some x → 0 < times_among h (scope_of x.label ss)
  own_scope h x here =
      let r : (t : ℕ) × (0 < times_among h (scope_of t ss)) = placed h (times_in h ss) x refl here in
      subst (λ t. 0 < times_among h (scope_of t ss)) (sym (chain_label places r.0 h None (scope_of r.0 ss) x (linked.chains r.0) r.1 here)) r.1

  pub mutual_links : (h q : ℕ) (x p : Place) → get places h ≡ Some x → get places q ≡ Some p → is_at x.earlier q ≡ is_at p.later h
  mutual_links h q x p here there =
      both_ways (is_at x.earlier q) (is_at p.later h)
      (λ is. named_at p.later h (comes_after places x.label h q None (scope_of x.label ss) x p (linked.chains x.label) (own_scope h x here) here there (named x.earlier q is)))
      (λ is. named_at x.earlier q (comes_before places p.label h q None (scope_of p.label ss) x p (linked.chains p.label) (λ z y one place. absurd cc) (own_scope q p there) here there (named p.later h is)))
