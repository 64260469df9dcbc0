-- A handle enters the scope of a label: its place is set, the one made before it gets it as its neighbour, and it is the last.
use Rattle.std.proofs.Common.{◌≡◌, ℕ, ◌≤◌, List, [], ◌∷◌, refl, ap, ◌∙◌, sym, subst, arith, Bool, true, false}
use Rattle.std.specs.Prelude.{Option, Some, None, ◌==◌, if◌then◌else◌}
use Rattle.std.proofs.lemmas.Bool.Decides.{nat_tests}
use Rattle.std.specs.Ordering.{nat_cmp}
use Rattle.std.specs.FinMap.{FinMap, get, insert}
use Rattle.trace_types.specs.declared.slots.Scoped.{Scoped}
use Rattle.ownership_model.specs.Scopes.{scope_of, entered, times_in}
use Rattle.ownership_model.proofs.Counting.{get_inserted, same_number}
use Rattle.ownership_model.proofs.LawsHold.{scopes}
use Rattle.object_heap.specs.declared.place.Place.{Place}
use Rattle.object_heap.specs.Links.{first_of, AreChained, AreLinked, with_later, set_later_at, relinked_later}
use Rattle.ownership_model.proofs.Scoping.{hit_is, itself, times-entered, from_entered}
use Rattle.object_heap.proofs.LinkLemmas.{some_eq}

-- ---- the neighbour gets the handle after it
-- a chain is another's, where all of its handles have the same places in both
chain_same : (a b : FinMap nat_cmp Place) (t : ℕ) (later : Option ℕ) (hs : List ℕ) → ((h : ℕ) (p : Place) → get a h ≡ Some p → p.label ≡ t → get b h ≡ Some p) → AreChained a t later hs → AreChained b t later hs
chain_same a b t later [] same c = tt
chain_same a b t later (h ∷ hs) same c = (same h (record { label = t; earlier = first_of hs; later = later }) c.0 refl, chain_same a b t (Some h) hs same c.1)

-- behind its first handle a chain is another's, where handles with one before them have the same places
tail_same : (a b : FinMap nat_cmp Place) (t x : ℕ) (hs : List ℕ) → ((h y : ℕ) (p : Place) → get a h ≡ Some p → p.later ≡ Some y → get b h ≡ Some p) → AreChained a t (Some x) hs → AreChained b t (Some x) hs
tail_same a b t x [] same c = tt
tail_same a b t x (h ∷ hs) same c = (same h x (record { label = t; earlier = first_of hs; later = Some x }) c.0 refl, tail_same a b t h hs same c.1)

-- another handle than the one whose place is changed keeps its own
kept_place : (places : FinMap nat_cmp Place) (e q : ℕ) (was p : Place) (l : Option ℕ) → get places e ≡ Some was → get places q ≡ Some p → (p ≡ was → ⊥) → get (with_later places e l) q ≡ Some p
kept_place places e q was p l here there apart =
    subst (λ (x : Option Place). get (set_later_at places e x l) q ≡ Some p) (sym here)
    (get_inserted places e (record { label = was.label; earlier = was.earlier; later = l }) q ∙ test (e == q) refl)
  where
    test : (b : Bool) → (e == q) ≡ b → (if b then Some (record { label = was.label; earlier = was.earlier; later = l }) else get places q) ≡ Some p
    test true is = absurd (apart (some_eq p was (sym there ∙ ap (get places) (sym (same_number e q is)) ∙ here)))
    test false is = there

changed_place : (places : FinMap nat_cmp Place) (e : ℕ) (was : Place) (l : Option ℕ) → get places e ≡ Some was → get (with_later places e l) e ≡ Some (record { label = was.label; earlier = was.earlier; later = l })
changed_place places e was l here =
    subst (λ (x : Option Place). get (set_later_at places e x l) e ≡ Some (record { label = was.label; earlier = was.earlier; later = l })) (sym here)
    (get_inserted places e (record { label = was.label; earlier = was.earlier; later = l }) e
    ∙ ap (λ b. if b then Some (record { label = was.label; earlier = was.earlier; later = l }) else get places e) (itself e))

-- the first handle of a chain has another before it: the chain goes on behind that
pushed_chain : (places : FinMap nat_cmp Place) (t x e : ℕ) (hs : List ℕ) → AreChained places t None (e ∷ hs) → AreChained (with_later places e (Some x)) t (Some x) (e ∷ hs)
pushed_chain places t x e hs c = (
  changed_place places e (record { label = t; earlier = first_of hs; later = None }) (Some x) c.0,
  tail_same places (with_later places e (Some x)) t e hs
      (λ q y p there is. kept_place places e q (record { label = t; earlier = first_of hs; later = None }) p (Some x) c.0 there
      (λ same. let none : p.later ≡ None = ap (λ (z : Place). z.later) same in let both : Some y ≡ None = sym is ∙ none in absurd cc)) c.1,
)

-- a chain of another label stays
other_chain : (places : FinMap nat_cmp Place) (t u x e : ℕ) (hs us : List ℕ) (later : Option ℕ) → (t == u) ≡ false → AreChained places t None (e ∷ hs) → AreChained places u later us → AreChained (with_later places e (Some x)) u later us
other_chain places t u x e hs us later apart c d =
    chain_same places (with_later places e (Some x)) u later us
    (λ q p there is. kept_place places e q (record { label = t; earlier = first_of hs; later = None }) p (Some x) c.0 there
    (λ same. let one : t ≡ u = sym (ap (λ (z : Place). z.label) same) ∙ is in let both : (t == u) ≡ true = grind (arith, nat_tests, one) in absurd cc)) d

later_none : (places : FinMap nat_cmp Place) (e q : ℕ) (l : Option ℕ) → get places q ≡ None → get (with_later places e l) q ≡ None
later_none places e q l none = at_place (get places e) refl
  where
    at_key : (p r : Place) (b : Bool) → get places e ≡ Some p → (e == q) ≡ b → (if b then Some r else get places q) ≡ None
    at_key p r true is same = let two : get places e ≡ get places q = ap (get places) (same_number e q same) in absurd cc
    at_key p r false is other = none

    at_place : (o : Option Place) → get places e ≡ o → get (set_later_at places e o l) q ≡ None
    at_place None is = none
    at_place (Some p) is =
        get_inserted places e (record { label = p.label; earlier = p.earlier; later = l }) q ∙ at_key p (record { label = p.label; earlier = p.earlier; later = l }) (e == q) is refl

pushed_none : (places : FinMap nat_cmp Place) (o : Option ℕ) (h q : ℕ) → get places q ≡ None → get (relinked_later places o (Some h)) q ≡ None
pushed_none places None h q none = none
pushed_none places (Some e) h q none = later_none places e q (Some h) none

pushed_own : (places : FinMap nat_cmp Place) (t h : ℕ) (hs : List ℕ) → AreChained places t None hs → AreChained (relinked_later places (first_of hs) (Some h)) t (Some h) hs
pushed_own places t h [] c = tt
pushed_own places t h (e ∷ hs) c = pushed_chain places t h e hs c

pushed_other : (places : FinMap nat_cmp Place) (t u h : ℕ) (hs us : List ℕ) → (t == u) ≡ false → AreChained places t None hs → AreChained places u None us → AreChained (relinked_later places (first_of hs) (Some h)) u None us
pushed_other places t u h [] us apart c d = d
pushed_other places t u h (e ∷ hs) us apart c d = other_chain places t u h e hs us None apart c d

-- ---- a handle that had no place gets one
kept_beside : (places : FinMap nat_cmp Place) (h q : ℕ) (p r : Place) (b : Bool) → get places h ≡ None → get places q ≡ Some r → (h == q) ≡ b → (if b then Some p else get places q) ≡ Some r
kept_beside places h q p r true none there same = let two : get places h ≡ get places q = ap (get places) (same_number h q same) in absurd cc
kept_beside places h q p r false none there other = there

chain_beside : (places : FinMap nat_cmp Place) (h : ℕ) (p : Place) (u : ℕ) (later : Option ℕ) (us : List ℕ) → get places h ≡ None → AreChained places u later us → AreChained (insert places h p) u later us
chain_beside places h p u later us none c = chain_same places (insert places h p) u later us (λ q r there is. get_inserted places h p q ∙ kept_beside places h q p r (h == q) none there refl) c

-- ---- the trees
module _ (places : FinMap nat_cmp Place) (last : FinMap nat_cmp ℕ) (ss : List Scoped) (t h : ℕ) (x : AreLinked places last ss) (new : times_in h ss ≡ 0) where
  abbrev before : Option ℕ
  before = first_of (scope_of t ss)

  abbrev own : Place
  own = record { label = t; earlier = before; later = None }

  abbrev grown : FinMap nat_cmp Place
  grown = insert (relinked_later places before (Some h)) h own

  no_place : get (relinked_later places before (Some h)) h ≡ None
  no_place = pushed_none places before h h (x.only h new)

  own_place : get grown h ≡ Some own
  own_place = get_inserted (relinked_later places before (Some h)) h own h ∙ ap (λ b. if b then Some own else get (relinked_later places before (Some h)) h) (itself h)

  chain_after : (u : ℕ) (b : Bool) → (t == u) ≡ b → AreChained grown u None (scope_of u (entered t h ss))
  chain_after u true same =
      subst (λ k. AreChained grown k None (scope_of k (entered t h ss))) (same_number t u same)
      (subst (λ hs. AreChained grown t None hs) (sym (scopes.enters t h ss))
      (own_place, chain_beside (relinked_later places before (Some h)) h own t (Some h) (scope_of t ss) no_place (pushed_own places t h (scope_of t ss) (x.chains t))))
  chain_after u false other =
      subst (λ hs. AreChained grown u None hs) (sym (scopes.others t h u ss other))
      (chain_beside (relinked_later places before (Some h)) h own u None (scope_of u ss) no_place (pushed_other places t u h (scope_of t ss) (scope_of u ss) other (x.chains t) (x.chains u)))

  head_after : (u : ℕ) (b : Bool) → (t == u) ≡ b → (if b then Some h else get last u) ≡ first_of (scope_of u (entered t h ss))
  head_after u true same = subst (λ k. Some h ≡ first_of (scope_of k (entered t h ss))) (same_number t u same) (sym (ap first_of (scopes.enters t h ss)))
  head_after u false other = x.heads u ∙ sym (ap first_of (scopes.others t h u ss other))

  only_after : (q : ℕ) (b : Bool) → times_in q (entered t h ss) ≡ 0 → (h == q) ≡ b → (if b then Some own else get (relinked_later places before (Some h)) q) ≡ None
  only_after q true none same = absurd (omega (arith, none, times-entered t h q ss, hit_is h q true same))
  only_after q false none other = pushed_none places before h q (x.only q (omega (arith, none, times-entered t h q ss)))

  once_after : (q : ℕ) (b : Bool) → (h == q) ≡ b → times_in q (entered t h ss) ≤ 1
  once_after q true same =
      let none : times_in q ss ≡ 0 = subst (λ k. times_in k ss ≡ 0) (same_number h q same) new in
      omega (arith, none, times-entered t h q ss, hit_is h q true same)
  once_after q false other = omega (arith, x.once q, times-entered t h q ss, hit_is h q false other)

  grown_linked : AreLinked grown (insert last t h) (entered t h ss)
  grown_linked = record {
    chains = λ u. chain_after u (t == u) refl;
    heads = λ u. get_inserted last t h u ∙ head_after u (t == u) refl;
    only = λ q none. get_inserted (relinked_later places before (Some h)) h own q ∙ only_after q (h == q) none refl;
    once = λ q. once_after q (h == q) refl;
    in_order = from_entered 0 t h ss (omega arith) x.in_order;
  }

  pub entered_linked : (o : Option ℕ) → o ≡ get last t → AreLinked (insert (relinked_later places o (Some h)) h (record { label = t; earlier = o; later = None })) (insert last t h) (entered t h ss)
  entered_linked o is =
      subst (λ (y : Option ℕ). AreLinked (insert (relinked_later places y (Some h)) h (record { label = t; earlier = y; later = None })) (insert last t h) (entered t h ss)) (sym (is ∙ x.heads t)) grown_linked
