-- Trees that are linked hold just these scopes.
use Rattle.std.proofs.Common.{◌≡◌, ℕ, zero, suc, ◌<◌, ◌≤◌, List, [], ◌∷◌, length, refl, ap, ◌∙◌, sym, subst, arith, true, false}
use Rattle.std.specs.Prelude.{Option, Some, None, ◌==◌, is_some, if◌then◌else◌}
use Rattle.std.specs.Ordering.{nat_cmp}
use Rattle.std.specs.FinMap.{FinMap, get, empty, get-empty, same_map, nat_cmp-IsAntisymmetric}
use Rattle.std.specs.Cmp.{nat_cmp_total}
use Rattle.trace_types.specs.declared.slots.Scoped.{Scoped}
use Rattle.ownership_model.specs.Scopes.{scope_of, times_in}
use Rattle.ownership_model.proofs.Counting.{same_number}
use Rattle.object_heap.specs.declared.place.Place.{Place}
use Rattle.object_heap.specs.Links.{first_of, earlier_at, walked, AreChained, AreLinked}
use Rattle.ownership_model.proofs.Scoping.{hit_is, own_first, times_among}

-- ---- a chain is walked from its first handle
pub walked-chain : (places : FinMap nat_cmp Place) (t n : ℕ) (later : Option ℕ) (hs : List ℕ) → AreChained places t later hs → length hs ≤ n → walked n places (first_of hs) ≡ hs
walked-chain places t n later [] c few = refl
walked-chain places t zero later (h ∷ hs) c few = absurd (omega arith)
walked-chain places t (suc n) later (h ∷ hs) c few =
    ap (λ (p : Option Place). h ∷ walked n places (earlier_at p)) c.0 ∙ ap (λ xs. h ∷ xs) (walked-chain places t n (Some h) hs c.1 (omega (arith, few)))

-- ---- each of its handles has a place
pub chain_held : (places : FinMap nat_cmp Place) (t : ℕ) (later : Option ℕ) (hs : List ℕ) (q : ℕ) → AreChained places t later hs → 0 < times_among q hs → is_some (get places q) ≡ true
chain_held places t later [] q c some = absurd (omega (arith, some))
chain_held places t later (h ∷ hs) q c some = elim (h == q) as (λ b. (h == q) ≡ b → is_some (get places q) ≡ true) [
  | true ↦ λ e. ap (λ k. is_some (get places k)) (sym (same_number h q e)) ∙ ap is_some c.0
  | false ↦ λ e. chain_held places t (Some h) hs q c.1 (omega (arith, some, hit_is h q false e))
] refl

-- ---- both trees are determined
pub empty_linked : AreLinked empty empty []
empty_linked = record {
  chains = λ t. tt;
  heads = λ t. get-empty nat_cmp t;
  only = λ h z. get-empty nat_cmp h;
  once = λ h. omega arith;
  in_order = tt;
}

chain_at : (a b : FinMap nat_cmp Place) (t : ℕ) (later : Option ℕ) (hs : List ℕ) (q : ℕ) → AreChained a t later hs → AreChained b t later hs → 0 < times_among q hs → get a q ≡ get b q
chain_at a b t later [] q c d some = absurd (omega (arith, some))
chain_at a b t later (h ∷ hs) q c d some = elim (h == q) as (λ x. (h == q) ≡ x → get a q ≡ get b q) [
  | true ↦ λ e. subst (λ k. get a k ≡ get b k) (same_number h q e) (c.0 ∙ sym d.0)
  | false ↦ λ e. chain_at a b t (Some h) hs q c.1 d.1 (omega (arith, some, hit_is h q false e))
] refl

pub more_among : (q t : ℕ) (s : Scoped) (ss : List Scoped) → 0 < times_among q (scope_of t ss) → 0 < times_among q (scope_of t (s ∷ ss))
more_among q t s ss some = elim (s.label == t) as (λ b. 0 < times_among q (if b then s.handle ∷ scope_of t ss else scope_of t ss)) [
  | true ↦ omega (arith, some)
  | false ↦ some
]

-- what stands in scopes stands in that of a label
pub in_scope : (q : ℕ) (ss : List Scoped) → 0 < times_in q ss → (t : ℕ) × (0 < times_among q (scope_of t ss))
in_scope q [] some = absurd (omega (arith, some))
in_scope q (s ∷ ss) some = elim (s.handle == q) as (λ b. (s.handle == q) ≡ b → (t : ℕ) × (0 < times_among q (scope_of t (s ∷ ss)))) [
  | true ↦ λ e. (s.label, subst (λ hs. 0 < times_among q hs) (sym (own_first s ss)) (omega (arith, hit_is s.handle q true e)))
  | false ↦ λ e. let r : (t : ℕ) × (0 < times_among q (scope_of t ss)) = in_scope q ss (omega (arith, some, hit_is s.handle q false e)) in (r.0, more_among q r.0 s ss r.1)
] refl

place_same : (a b : FinMap nat_cmp Place) (la lb : FinMap nat_cmp ℕ) (ss : List Scoped) (q n : ℕ) → times_in q ss ≡ n → AreLinked a la ss → AreLinked b lb ss → get a q ≡ get b q
place_same a b la lb ss q zero is x y = x.only q is ∙ sym (y.only q is)
place_same a b la lb ss q (suc n) is x y =
    let r : (t : ℕ) × (0 < times_among q (scope_of t ss)) = in_scope q ss (omega (arith, is)) in
    chain_at a b r.0 None (scope_of r.0 ss) q (x.chains r.0) (y.chains r.0) r.1

-- the trees are equal where they hold the same scopes
pub determined : (a b : FinMap nat_cmp Place) (la lb : FinMap nat_cmp ℕ) (ss : List Scoped) → AreLinked a la ss → AreLinked b lb ss → (a ≡ b) × (la ≡ lb)
determined a b la lb ss x y = (
  same_map nat_cmp_total nat_cmp-IsAntisymmetric a b (λ q. place_same a b la lb ss q (times_in q ss) refl x y),
  same_map nat_cmp_total nat_cmp-IsAntisymmetric la lb (λ t. x.heads t ∙ sym (y.heads t)),
)

pub some_eq : (p q : Place) → Some p ≡ Some q → p ≡ q
some_eq p q e = ap (out p) e
  where
    out : Place → Option Place → Place
    out d None = d
    out d (Some x) = x
