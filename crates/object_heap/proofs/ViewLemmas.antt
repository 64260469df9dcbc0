-- Linked trees show the scopes that they hold.
use Rattle.std.proofs.Common.{◌≡◌, ℕ, zero, suc, ◌-◌, ◌<◌, ◌≤◌, List, [], ◌∷◌, ◌++◌, length, refl, ap, ◌∙◌, sym, subst, arith, Bool, true, false, cond}
use Rattle.std.proofs.lemmas.List.{append-nil}
use Rattle.std.specs.Prelude.{Some, None, is_some, ◌==◌, ◌&&◌, if◌then◌else◌}
use Rattle.std.proofs.Math.Dec.{T}
use Rattle.std.proofs.lemmas.Bool.Decides.{nat_tests}
use Rattle.std.specs.declared.cmp.Ordering.{Ordering}
use Rattle.std.specs.declared.cmp.Ordering.TheVariants.{Less, Equal, Greater}
use Rattle.std.specs.Ordering.{nat_cmp, is_lt, is_eq, eq_by_cmp}
use Rattle.std.specs.Cmp.{nat_cmp_total}
use Rattle.std.specs.FinMap.{FinMap, get, remove, entries, len, get-empty, empty_of_len, len-remove, entries_sorted, get-entries}
use Rattle.std.specs.FinMap.Entries.{is_sorted, below_all, find}
use Rattle.trace_types.specs.declared.slots.Scoped.{Scoped}
use Rattle.ownership_model.specs.Scopes.{scope_of, AreFrom}
use Rattle.ownership_model.proofs.Counting.{get_removed, same_number}
use Rattle.ownership_model.proofs.Scoping.{same_scopes}
use Rattle.object_heap.specs.declared.place.Place.{Place}
use Rattle.object_heap.specs.Links.{walked, with_label, scopes_in, scopes_at, AreLinked}
use Rattle.ownership_model.proofs.Scoping.{hit_is, itself, times_among, times_of_scope, from_lower}
use Rattle.object_heap.proofs.LinkLemmas.{walked-chain, chain_held, determined}

-- ---- the handles of a scope are no more than the places
not_none : {X : Type 0} (m : FinMap nat_cmp X) (h n : ℕ) → len m ≡ n → is_some (get m h) ≡ true → 0 < n
not_none m h zero size held = let none : is_some (get m h) ≡ false = ap (λ k. is_some (get k h)) (empty_of_len m size) ∙ ap is_some (get-empty nat_cmp h) in absurd cc
not_none m h (suc n) size held = omega arith

still_held : {X : Type 0} (m : FinMap nat_cmp X) (h q : ℕ) (hs : List ℕ) (b : Bool) → (h == q) ≡ b → times_among q (h ∷ hs) ≤ 1 → 0 < times_among q hs → is_some (get m q) ≡ true → is_some (get (remove m h) q) ≡ true
still_held m h q hs true e once some here = absurd (omega (arith, once, some, hit_is h q true e))
still_held m h q hs false e once some here = ap is_some (get_removed m h q ∙ ap (λ b. if b then None else get m q) e) ∙ here

few : {X : Type 0} (hs : List ℕ) (m : FinMap nat_cmp X) → ((q : ℕ) → times_among q hs ≤ 1) → ((q : ℕ) → 0 < times_among q hs → is_some (get m q) ≡ true) → length hs ≤ len m
few [] m once held = omega arith
few (h ∷ hs) m once held =
    let here : is_some (get m h) ≡ true = held h (omega (arith, hit_is h h true (itself h))) in
    let less : len (remove m h) ≡ len m - 1 = len-remove nat_cmp_total m h ∙ ap (λ b. cond b (len m - 1) (len m)) here in
    let rest : length hs ≤ len (remove m h) = few hs (remove m h) (λ q. omega (arith, once q)) (λ q some. still_held m h q hs (h == q) refl (once q) some (held q (omega (arith, some)))) in
    omega (arith, less, rest, not_none m h (len m) refl here)

-- ---- entries in the order of their keys
pub first : (a b : Bool) → T (a && b) → T a
first true b p = tt
first false b p = p

pub second : (a b : Bool) → T (a && b) → T b
second true b p = p
second false b p = absurd p

less : (o : Ordering) → T (is_lt o) → o ≡ Less
less Less p = refl
less Equal p = absurd p
less Greater p = absurd p

below : (t u : ℕ) → nat_cmp t u ≡ Less → t ≤ u
below t u h = grind (arith, nat_tests)

pub same_key : (t u : ℕ) → eq_by_cmp nat_cmp t u ≡ (u == t)
same_key t u = grind (arith, nat_tests)

pub find_below : {X : Type 0} (t : ℕ) (es : List (ℕ × X)) → T (below_all nat_cmp t es) → find nat_cmp t es ≡ None
find_below t [] h = refl
find_below t (e ∷ es) h = ap (λ r. cond (is_eq r) (Some e.1) (find nat_cmp t es)) (less _ (first _ _ h)) ∙ find_below t es (second _ _ h)

-- ---- the labels of a view rise
from_label : (u t : ℕ) (hs : List ℕ) (ss : List Scoped) → u ≤ t → AreFrom t ss → AreFrom u (with_label t hs ++ ss)
from_label u t [] ss low from = from_lower u t ss low from
from_label u t (h ∷ hs) ss low from = (low, from_label t t hs ss (omega arith) from)

from_above : (places : FinMap nat_cmp Place) (t : ℕ) (es : List (ℕ × ℕ)) → T (below_all nat_cmp t es) → T (is_sorted nat_cmp es) → AreFrom t (scopes_in places es)
from_above places t [] above rise = tt
from_above places t (e ∷ es) above rise =
    from_label t e.0 (walked (len places) places (Some e.1)) (scopes_in places es) (below t e.0 (less _ (first _ _ above))) (from_above places e.0 es (first _ _ rise) (second _ _ rise))

from_start : (places : FinMap nat_cmp Place) (es : List (ℕ × ℕ)) → T (is_sorted nat_cmp es) → AreFrom 0 (scopes_in places es)
from_start places [] rise = tt
from_start places (e ∷ es) rise = from_label 0 e.0 (walked (len places) places (Some e.1)) (scopes_in places es) (omega arith) (from_above places e.0 es (first _ _ rise) (second _ _ rise))

-- ---- a view has the scope of each label
scope_append : (t : ℕ) (xs ys : List Scoped) → scope_of t (xs ++ ys) ≡ scope_of t xs ++ scope_of t ys
scope_append t [] ys = refl
scope_append t (x ∷ xs) ys = elim (x.label == t) as (λ b. (if b then x.handle ∷ scope_of t (xs ++ ys) else scope_of t (xs ++ ys)) ≡ (if b then x.handle ∷ scope_of t xs else scope_of t xs) ++ scope_of t ys) [
  | true ↦ ap (λ hs. x.handle ∷ hs) (scope_append t xs ys)
  | false ↦ scope_append t xs ys
]

scope_label : (t u : ℕ) (hs : List ℕ) (b : Bool) → (u == t) ≡ b → scope_of t (with_label u hs) ≡ (if b then hs else [])
scope_label t u [] true e = refl
scope_label t u [] false e = refl
scope_label t u (h ∷ hs) true e = ap (λ b. if b then h ∷ scope_of t (with_label u hs) else scope_of t (with_label u hs)) e ∙ ap (λ xs. h ∷ xs) (scope_label t u hs true e)
scope_label t u (h ∷ hs) false e = ap (λ b. if b then h ∷ scope_of t (with_label u hs) else scope_of t (with_label u hs)) e ∙ scope_label t u hs false e

module _ (places : FinMap nat_cmp Place) (t : ℕ) where
  scope_next : (e : ℕ × ℕ) (es : List (ℕ × ℕ)) (b : Bool) → (e.0 == t) ≡ b → T (is_sorted nat_cmp (e ∷ es)) → scope_of t (scopes_in places es) ≡ walked (len places) places (find nat_cmp t es)
      → scope_of t (with_label e.0 (walked (len places) places (Some e.1))) ++ scope_of t (scopes_in places es) ≡ walked (len places) places (cond b (Some e.1) (find nat_cmp t es))
  scope_next e es true same rise rest =
      let none : scope_of t (scopes_in places es) ≡ [] =
      rest ∙ ap (walked (len places) places) (find_below t es (subst (λ k. T (below_all nat_cmp k es)) (same_number e.0 t same) (first _ _ rise))) in
      ap (λ hs. hs ++ scope_of t (scopes_in places es)) (scope_label t e.0 (walked (len places) places (Some e.1)) true same)
      ∙ ap (λ hs. walked (len places) places (Some e.1) ++ hs) none ∙ append-nil (walked (len places) places (Some e.1))
  scope_next e es false other rise rest =
      ap (λ hs. hs ++ scope_of t (scopes_in places es)) (scope_label t e.0 (walked (len places) places (Some e.1)) false other) ∙ rest

  scope_in : (es : List (ℕ × ℕ)) → T (is_sorted nat_cmp es) → scope_of t (scopes_in places es) ≡ walked (len places) places (find nat_cmp t es)
  scope_in [] rise = refl
  scope_in (e ∷ es) rise =
      scope_append t (with_label e.0 (walked (len places) places (Some e.1))) (scopes_in places es)
      ∙ scope_next e es (e.0 == t) refl rise (scope_in es (second _ _ rise))
      ∙ ap (λ b. walked (len places) places (cond b (Some e.1) (find nat_cmp t es))) (sym (same_key t e.0))

-- ---- the view is the scopes
module _ (places : FinMap nat_cmp Place) (last : FinMap nat_cmp ℕ) (ss : List Scoped) (x : AreLinked places last ss) where
  scope_fits : (t : ℕ) → length (scope_of t ss) ≤ len places
  scope_fits t = few (scope_of t ss) places (λ q. omega (arith, times_of_scope t q ss, x.once q)) (λ q some. chain_held places t None (scope_of t ss) q (x.chains t) some)

  scope_seen : (t : ℕ) → scope_of t (scopes_at places last) ≡ scope_of t ss
  scope_seen t =
      scope_in places t (entries last) (entries_sorted last)
      ∙ ap (walked (len places) places) (sym (get-entries last t) ∙ x.heads t)
      ∙ walked-chain places t (len places) None (scope_of t ss) (x.chains t) (scope_fits t)

  pub viewed : scopes_at places last ≡ ss
  viewed = same_scopes 0 0 (scopes_at places last) ss (from_start places (entries last) (entries_sorted last)) x.in_order scope_seen

  pub linked_view : AreLinked places last (scopes_at places last)
  linked_view = subst (λ (v : List Scoped). AreLinked places last v) (sym viewed) x

pub linked_as : (places old_places : FinMap nat_cmp Place) (last old_last : FinMap nat_cmp ℕ) (ss : List Scoped) → places ≡ old_places → last ≡ old_last → AreLinked old_places old_last ss → AreLinked places last ss
linked_as places old_places last old_last ss p l x = subst (λ (a : FinMap nat_cmp Place). AreLinked a last ss) (sym p) (subst (λ (b : FinMap nat_cmp ℕ). AreLinked old_places b ss) (sym l) x)

pub linked_to : (places : FinMap nat_cmp Place) (last : FinMap nat_cmp ℕ) (old ss : List Scoped) → old ≡ ss → AreLinked places last old → AreLinked places last ss
linked_to places last old ss same x = subst (λ (v : List Scoped). AreLinked places last v) same x

-- trees that show the same are the same
pub same_trees : (a b : FinMap nat_cmp Place) (la lb : FinMap nat_cmp ℕ) → AreLinked a la (scopes_at a la) → AreLinked b lb (scopes_at b lb) → scopes_at a la ≡ scopes_at b lb → (a ≡ b) × (la ≡ lb)
same_trees a b la lb x y same = determined a b la lb (scopes_at b lb) (subst (λ (ss : List Scoped). AreLinked a la ss) same x) y
