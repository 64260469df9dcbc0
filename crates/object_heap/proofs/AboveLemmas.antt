-- A handle enters the scope of a label just above another one, or at its end: its neighbours get it as theirs.
use Rattle.std.proofs.Common.{◌≡◌, ℕ, ◌+◌, ◌<◌, ◌≤◌, List, [], ◌∷◌, ◌++◌, refl, ap, ◌∙◌, sym, subst, arith, Bool, true, false}
use Rattle.std.specs.Prelude.{Option, Some, None, ◌==◌, is_some, nat_le, if◌then◌else◌}
use Rattle.std.proofs.lemmas.Bool.Decides.{nat_tests}
use Rattle.std.specs.Ordering.{nat_cmp}
use Rattle.std.specs.FinMap.{FinMap, get, insert}
use Rattle.trace_types.specs.declared.slots.Scoped.{Scoped}
use Rattle.ownership_model.specs.Scopes.{scope_of, times_in, AreFrom}
use Rattle.ownership_model.proofs.Counting.{get_inserted, same_number}
use Rattle.ownership_model.proofs.Scoping.{hit_is, itself, own_first, times_among, times_of_scope}
use Rattle.object_heap.specs.declared.place.Place.{Place}
use Rattle.object_heap.specs.Links.{first_of, label_in, put_above, entered_above, above_of, IsAbove, last_with, AreChained, AreLinked, relinked_later, relinked_earlier}
use Rattle.object_heap.proofs.LinkLemmas.{more_among, chain_held}
use Rattle.object_heap.proofs.NeighbourLemmas.{is_at, first_place}
use Rattle.object_heap.proofs.LeaveLemmas.{later_set, earlier_set, get_later, get_earlier}

some_same : (a b : ℕ) → Some a ≡ Some b → a ≡ b
some_same a b e = ap (λ (x : Option ℕ). of x) e
  where
    of : Option ℕ → ℕ
    of None = 0
    of (Some x) = x

clash : (b : Bool) → b ≡ true → b ≡ false → ⊥
clash true t f = absurd cc
clash false t f = absurd cc

turned : (x y : ℕ) → (x == y) ≡ false → (y == x) ≡ false
turned x y other = grind (arith, nat_tests, other)

-- what doesn't stand in a list isn't its first, nor in the rest
not_first : (q x : ℕ) (xs : List ℕ) → times_among q (x ∷ xs) ≡ 0 → (x == q) ≡ false
not_first q x xs none = at (x == q) refl
  where
    at : (b : Bool) → (x == q) ≡ b → b ≡ false
    at true e = absurd (omega (arith, none, hit_is x q true e))
    at false e = refl

-- ---- which handle is above it
-- a handle that stands elsewhere isn't the one
above_stays : (o : Option ℕ) (x y : ℕ) (ys : List ℕ) → times_among x (y ∷ ys) ≡ 0 → is_at (above_of o (Some y) ys) x ≡ false
above_stays o x y [] none = not_first x y [] none
above_stays None x y (z ∷ zs) none = above_stays None x z zs (omega (arith, none))
above_stays (Some b) x y (z ∷ zs) none = at (z == b) (above_stays (Some b) x z zs (omega (arith, none)))
  where
    at : (c : Bool) → is_at (above_of (Some b) (Some z) zs) x ≡ false → is_at (if c then Some y else above_of (Some b) (Some z) zs) x ≡ false
    at true rest = not_first x y (z ∷ zs) none
    at false rest = rest

-- the one made just before the first of a list, once it is put in
earlier_now : (o : Option ℕ) (h x : ℕ) (xs : List ℕ) → times_among x xs ≡ 0 → (if is_at (above_of o (Some x) xs) x then Some h else first_of xs) ≡ first_of (put_above o h xs)
earlier_now None h x [] none = ap (λ b. if b then Some h else None) (itself x)
earlier_now (Some b) h x [] none = ap (λ c. if c then Some h else None) (itself x)
earlier_now None h x (y ∷ ys) none = ap (λ c. if c then Some h else Some y) (above_stays None x y ys none)
earlier_now (Some b) h x (y ∷ ys) none = at (y == b)
  where
    at : (c : Bool) → (if is_at (if c then Some x else above_of (Some b) (Some y) ys) x then Some h else Some y) ≡ first_of (if c then h ∷ y ∷ ys else y ∷ put_above (Some b) h ys)
    at true = ap (λ c. if c then Some h else Some y) (itself x)
    at false = ap (λ c. if c then Some h else Some y) (above_stays (Some b) x y ys none)

-- ---- the chain that it enters
-- it goes above a handle of the list, or at the end
abbrev goes_in : Option ℕ → List ℕ → Type 0
goes_in None hs = Unit {0}
goes_in (Some b) hs = 0 < times_among b hs

module _ (a b : FinMap nat_cmp Place) (t h : ℕ) (under above : Option ℕ) where
  abbrev own : Place
  own = record { label = t; earlier = under; later = above }

  abbrev now_at : ℕ → Place → Place
  now_at q p = record { label = p.label; earlier = if is_at above q then Some h else p.earlier; later = if is_at under q then Some h else p.later }

  module _ (own_place : get b h ≡ Some own) (others : (q : ℕ) (p : Place) → (h == q) ≡ false → get a q ≡ Some p → get b q ≡ Some (now_at q p)) where
    -- a chain that has neither stays
    still : (u : ℕ) (later : Option ℕ) (hs : List ℕ) → ((q : ℕ) → 0 < times_among q hs → ((h == q) ≡ false) × ((is_at above q ≡ false) × (is_at under q ≡ false))) → AreChained a u later hs → AreChained b u later hs
    still u later [] apart c = tt
    still u later (x ∷ xs) apart c =
        let s = apart x (omega (arith, hit_is x x true (itself x))) in (
          others x (record { label = u; earlier = first_of xs; later = later }) s.0 c.0
              ∙ ap (λ d. Some (record { label = u; earlier = if d then Some h else first_of xs; later = if is_at under x then Some h else later })) s.1.0
              ∙ ap (λ d. Some (record { label = u; earlier = first_of xs; later = if d then Some h else later })) s.1.1,
          still u (Some x) xs (λ q some. apart q (omega (arith, some))) c.1,
        )

    few_not : (q x : ℕ) (xs : List ℕ) → times_among q (x ∷ xs) ≤ 1 → 0 < times_among q xs → (x == q) ≡ false
    few_not q x xs few some = at (x == q) refl
      where
        at : (c : Bool) → (x == q) ≡ c → c ≡ false
        at true e = absurd (omega (arith, few, some, hit_is x q true e))
        at false e = refl

    once_none : (x : ℕ) (xs : List ℕ) → times_among x (x ∷ xs) ≤ 1 → times_among x xs ≡ 0
    once_none x xs few = omega (arith, few, hit_is x x true (itself x))

    later_not : (l : Option ℕ) (q : ℕ) (hs : List ℕ) → ((z : ℕ) → l ≡ Some z → times_among z hs ≡ 0) → 0 < times_among q hs → is_at l q ≡ false
    later_not None q hs out some = refl
    later_not (Some z) q hs out some = at (z == q) refl
      where
        at : (c : Bool) → (z == q) ≡ c → c ≡ false
        at true e = let none : times_among q hs ≡ 0 = subst (λ k. times_among k hs ≡ 0) (same_number z q e) (out z refl) in absurd (omega (arith, none, some))
        at false e = refl

    enters : (o later : Option ℕ) (hs : List ℕ) → o ≡ under → above ≡ above_of o later hs → goes_in o hs → times_among h hs ≡ 0 → ((q : ℕ) → times_among q hs ≤ 1)
        → ((z : ℕ) → later ≡ Some z → times_among z hs ≡ 0) → AreChained a t later hs → AreChained b t later (put_above o h hs)
    enters None later [] is over goes none few out c = (own_place ∙ (λ i. Some (record { label = t; earlier = sym is i; later = over i })), tt)
    enters (Some d) later [] is over goes none few out c = absurd (omega (arith, goes))
    enters None later (x ∷ xs) is over goes none few out c = (
      others x (record { label = t; earlier = first_of xs; later = later }) (turned x h (not_first h x xs none)) c.0
          ∙ ap (λ (o : Option ℕ). Some (record { label = t; earlier = if is_at above x then Some h else first_of xs; later = if is_at o x then Some h else later })) (sym is)
          ∙ ap (λ (o : Option ℕ). Some (record { label = t; earlier = if is_at o x then Some h else first_of xs; later = later })) over
          ∙ ap (λ (o : Option ℕ). Some (record { label = t; earlier = o; later = later })) (earlier_now None h x xs (once_none x xs (few x))),
      enters None (Some x) xs is over goes (omega (arith, none)) (λ q. omega (arith, few q)) (λ z e. subst (λ k. times_among k xs ≡ 0) (some_same x z e) (once_none x xs (few x))) c.1,
    )
    enters (Some d) later (x ∷ xs) is over goes none few out c =
        at (x == d) refl over (λ e up. enters (Some d) (Some x) xs is up (omega (arith, goes, hit_is x d false e)) (omega (arith, none)) (λ q. omega (arith, few q))
        (λ z f. subst (λ k. times_among k xs ≡ 0) (some_same x z f) (once_none x xs (few x))) c.1)
      where
        first_place : (y : Bool) → (x == d) ≡ y → get b x ≡ Some (record { label = t; earlier = if is_at above x then Some h else first_of xs; later = if y then Some h else later })
        first_place y e =
            others x (record { label = t; earlier = first_of xs; later = later }) (turned x h (not_first h x xs none)) c.0
            ∙ ap (λ (o : Option ℕ). Some (record { label = t; earlier = if is_at above x then Some h else first_of xs; later = if is_at o x then Some h else later })) (sym is)
            ∙ ap (λ z. Some (record { label = t; earlier = if is_at above x then Some h else first_of xs; later = if z then Some h else later })) (flip y e)
          where
            flip : (y : Bool) → (x == d) ≡ y → (d == x) ≡ y
            flip true e = ap (λ z. d == z) (same_number x d e) ∙ itself d
            flip false e = turned x d e

        at : (y : Bool) → (x == d) ≡ y → above ≡ (if y then later else above_of (Some d) (Some x) xs)
            → ((x == d) ≡ false → above ≡ above_of (Some d) (Some x) xs → AreChained b t (Some x) (put_above (Some d) h xs)) → AreChained b t later (if y then h ∷ x ∷ xs else x ∷ put_above (Some d) h xs)
        at true e up rest = (
          own_place ∙ (λ i. Some (record { label = t; earlier = (sym is ∙ ap (λ n. Some n) (sym (same_number x d e))) i; later = up i })),
          (
            first_place true e
                ∙ ap (λ z. Some (record { label = t; earlier = if z then Some h else first_of xs; later = Some h }))
                (ap (λ (o : Option ℕ). is_at o x) up ∙ later_not later x (x ∷ xs) out (omega (arith, hit_is x x true (itself x)))),
            still t (Some x) xs (λ q some. (
              apart q some,
              (
                ap (λ (o : Option ℕ). is_at o q) up ∙ later_not later q (x ∷ xs) out (omega (arith, some)),
                ap (λ (o : Option ℕ). is_at o q) (sym is) ∙ ap (λ n. n == q) (sym (same_number x d e)) ∙ few_not q x xs (few q) some,
              ),
            )) c.1,
          ),
        )
          where
            apart : (q : ℕ) → 0 < times_among q xs → (h == q) ≡ false
            apart q some = by (h == q) refl
              where
                by : (z : Bool) → (h == q) ≡ z → z ≡ false
                by true f = let gone : times_among q (x ∷ xs) ≡ 0 = subst (λ k. times_among k (x ∷ xs) ≡ 0) (same_number h q f) none in absurd (omega (arith, gone, some))
                by false f = refl
        at false e up rest = (
          first_place false e
              ∙ ap (λ (o : Option ℕ). Some (record { label = t; earlier = if is_at o x then Some h else first_of xs; later = later })) up
              ∙ ap (λ (o : Option ℕ). Some (record { label = t; earlier = o; later = later })) (earlier_now (Some d) h x xs (once_none x xs (few x))),
          rest e up,
        )

-- ---- the list of scopes that it enters
-- the scope of a label doesn't begin before it
later_scope : (t u : ℕ) (ss : List Scoped) → t < u → AreFrom u ss → scope_of t ss ≡ []
later_scope t u [] less from = refl
later_scope t u (s ∷ ss) less from = at (s.label == t) refl (later_scope t s.label ss (omega (arith, less, from.0)) from.1)
  where
    at : (c : Bool) → (s.label == t) ≡ c → scope_of t ss ≡ [] → (if c then s.handle ∷ scope_of t ss else scope_of t ss) ≡ []
    at true e rest = absurd (omega (arith, less, from.0, same_number s.label t e))
    at false e rest = rest

above_label : (t u : ℕ) → nat_le u t ≡ false → t < u
above_label t u e = grind (arith, nat_tests, e)

within_label : (t u : ℕ) → nat_le u t ≡ true → u ≤ t
within_label t u e = grind (arith, nat_tests, e)

label_next : (q : ℕ) (s : Scoped) (ss : List Scoped) (o : Option ℕ) → (s.handle == q) ≡ false → label_in q (s ∷ ss) ≡ o → label_in q ss ≡ o
label_next q s ss o e is = sym (ap (λ c. if c then Some s.label else label_in q ss) e) ∙ is

label_here : (q : ℕ) (s : Scoped) (ss : List Scoped) (t : ℕ) → (s.handle == q) ≡ true → label_in q (s ∷ ss) ≡ Some t → s.label ≡ t
label_here q s ss t e is = some_same s.label t (sym (ap (λ c. if c then Some s.label else label_in q ss) e) ∙ is)

pub scope_own : (t h : ℕ) (o : Option ℕ) (u : ℕ) (ss : List Scoped) → AreFrom u ss → IsAbove o t ss → scope_of t (entered_above t h o ss) ≡ put_above o h (scope_of t ss)
scope_own t h None u [] from is = ap (λ c. if c then h ∷ [] else []) (itself t)
scope_own t h (Some d) u [] from is = absurd cc
scope_own t h None u (s ∷ ss) from is = at (nat_le s.label t) refl (scope_own t h None s.label ss from.1 tt)
  where
    next : (c : Bool) (xs ys : List ℕ) → ys ≡ xs ++ h ∷ [] → (if c then s.handle ∷ ys else ys) ≡ (if c then s.handle ∷ xs else xs) ++ h ∷ []
    next true xs ys e = ap (λ zs. s.handle ∷ zs) e
    next false xs ys e = e

    at : (c : Bool) → nat_le s.label t ≡ c → scope_of t (entered_above t h None ss) ≡ scope_of t ss ++ h ∷ [] → scope_of t (if c then s ∷ entered_above t h None ss else record { label = t; handle = h } ∷ s ∷ ss) ≡ scope_of t (s ∷ ss) ++ h ∷ []
    at true e rest = next (s.label == t) (scope_of t ss) (scope_of t (entered_above t h None ss)) rest
    at false e rest =
        let none : scope_of t (s ∷ ss) ≡ [] = later_scope t s.label (s ∷ ss) (above_label t s.label e) (omega arith, from.1) in
        ap (λ c. if c then h ∷ scope_of t (s ∷ ss) else scope_of t (s ∷ ss)) (itself t) ∙ ap (λ xs. h ∷ xs) none ∙ sym (ap (λ xs. xs ++ h ∷ []) none)
scope_own t h (Some d) u (s ∷ ss) from is = at (s.handle == d) refl (λ e. scope_own t h (Some d) s.label ss from.1 (label_next d s ss (Some t) e is))
  where
    next : (c : Bool) (xs ys : List ℕ) → (s.handle == d) ≡ false → ys ≡ put_above (Some d) h xs → (if c then s.handle ∷ ys else ys) ≡ put_above (Some d) h (if c then s.handle ∷ xs else xs)
    next true xs ys other e = ap (λ zs. s.handle ∷ zs) e ∙ sym (ap (λ z. if z then h ∷ s.handle ∷ xs else s.handle ∷ put_above (Some d) h xs) other)
    next false xs ys other e = e

    at : (c : Bool) → (s.handle == d) ≡ c → ((s.handle == d) ≡ false → scope_of t (entered_above t h (Some d) ss) ≡ put_above (Some d) h (scope_of t ss))
        → scope_of t (if c then record { label = t; handle = h } ∷ s ∷ ss else s ∷ entered_above t h (Some d) ss) ≡ put_above (Some d) h (scope_of t (s ∷ ss))
    at true e rest =
        let own : scope_of t (s ∷ ss) ≡ s.handle ∷ scope_of t ss = subst (λ k. scope_of k (s ∷ ss) ≡ s.handle ∷ scope_of k ss) (label_here d s ss t e is) (own_first s ss) in
        ap (λ c. if c then h ∷ scope_of t (s ∷ ss) else scope_of t (s ∷ ss)) (itself t)
        ∙ ap (λ xs. h ∷ xs) own
        ∙ sym (ap (λ z. if z then h ∷ s.handle ∷ scope_of t ss else s.handle ∷ put_above (Some d) h (scope_of t ss)) e)
        ∙ sym (ap (put_above (Some d) h) own)
    at false e rest = next (s.label == t) (scope_of t ss) (scope_of t (entered_above t h (Some d) ss)) e (rest e)

pub scope_other : (t h : ℕ) (o : Option ℕ) (v : ℕ) (ss : List Scoped) → (t == v) ≡ false → scope_of v (entered_above t h o ss) ≡ scope_of v ss
scope_other t h None v [] other = ap (λ c. if c then h ∷ [] else []) other
scope_other t h (Some d) v [] other = ap (λ c. if c then h ∷ [] else []) other
scope_other t h None v (s ∷ ss) other = at (nat_le s.label t) (scope_other t h None v ss other)
  where
    at : (c : Bool) → scope_of v (entered_above t h None ss) ≡ scope_of v ss → scope_of v (if c then s ∷ entered_above t h None ss else record { label = t; handle = h } ∷ s ∷ ss) ≡ scope_of v (s ∷ ss)
    at true rest = ap (λ xs. if s.label == v then s.handle ∷ xs else xs) rest
    at false rest = ap (λ c. if c then h ∷ scope_of v (s ∷ ss) else scope_of v (s ∷ ss)) other
scope_other t h (Some d) v (s ∷ ss) other = at (s.handle == d) (scope_other t h (Some d) v ss other)
  where
    at : (c : Bool) → scope_of v (entered_above t h (Some d) ss) ≡ scope_of v ss → scope_of v (if c then record { label = t; handle = h } ∷ s ∷ ss else s ∷ entered_above t h (Some d) ss) ≡ scope_of v (s ∷ ss)
    at true rest = ap (λ c. if c then h ∷ scope_of v (s ∷ ss) else scope_of v (s ∷ ss)) other
    at false rest = ap (λ xs. if s.label == v then s.handle ∷ xs else xs) rest

pub times_above : (t h : ℕ) (o : Option ℕ) (q : ℕ) (ss : List Scoped) → times_in q (entered_above t h o ss) ≡ (if h == q then 1 else 0) + times_in q ss
times_above t h None q [] = refl
times_above t h (Some d) q [] = refl
times_above t h None q (s ∷ ss) = at (nat_le s.label t) (times_above t h None q ss)
  where
    at : (c : Bool) → times_in q (entered_above t h None ss) ≡ (if h == q then 1 else 0) + times_in q ss → times_in q (if c then s ∷ entered_above t h None ss else record { label = t; handle = h } ∷ s ∷ ss) ≡ (if h == q then 1 else 0) + times_in q (s ∷ ss)
    at true rest = omega (arith, rest)
    at false rest = refl
times_above t h (Some d) q (s ∷ ss) = at (s.handle == d) (times_above t h (Some d) q ss)
  where
    at : (c : Bool) → times_in q (entered_above t h (Some d) ss) ≡ (if h == q then 1 else 0) + times_in q ss → times_in q (if c then record { label = t; handle = h } ∷ s ∷ ss else s ∷ entered_above t h (Some d) ss) ≡ (if h == q then 1 else 0) + times_in q (s ∷ ss)
    at true rest = refl
    at false rest = omega (arith, rest)

-- the labels before that of a handle are not above it
label_from : (q t u : ℕ) (ss : List Scoped) → AreFrom u ss → label_in q ss ≡ Some t → u ≤ t
label_from q t u [] from is = absurd cc
label_from q t u (s ∷ ss) from is = at (s.handle == q) refl (λ e. label_from q t s.label ss from.1 (label_next q s ss (Some t) e is))
  where
    at : (c : Bool) → (s.handle == q) ≡ c → ((s.handle == q) ≡ false → s.label ≤ t) → u ≤ t
    at true e rest = omega (arith, from.0, label_here q s ss t e is)
    at false e rest = omega (arith, from.0, rest e)

pub from_above : (t h : ℕ) (o : Option ℕ) (u : ℕ) (ss : List Scoped) → u ≤ t → AreFrom u ss → IsAbove o t ss → AreFrom u (entered_above t h o ss)
from_above t h None u [] low from is = (low, tt)
from_above t h (Some d) u [] low from is = absurd cc
from_above t h None u (s ∷ ss) low from is = at (nat_le s.label t) refl (λ e. from_above t h None s.label ss (within_label t s.label e) from.1 tt)
  where
    at : (c : Bool) → nat_le s.label t ≡ c → (nat_le s.label t ≡ true → AreFrom s.label (entered_above t h None ss)) → AreFrom u (if c then s ∷ entered_above t h None ss else record { label = t; handle = h } ∷ s ∷ ss)
    at true e rest = (from.0, rest e)
    at false e rest = let less : t < s.label = above_label t s.label e in (low, (omega (arith, less), from.1))
from_above t h (Some d) u (s ∷ ss) low from is =
    at (s.handle == d) refl (λ e. let further : label_in d ss ≡ Some t = label_next d s ss (Some t) e is in from_above t h (Some d) s.label ss (label_from d t s.label ss from.1 further) from.1 further)
  where
    at : (c : Bool) → (s.handle == d) ≡ c → ((s.handle == d) ≡ false → AreFrom s.label (entered_above t h (Some d) ss)) → AreFrom u (if c then record { label = t; handle = h } ∷ s ∷ ss else s ∷ entered_above t h (Some d) ss)
    at true e rest = let same : s.label ≡ t = label_here d s ss t e is in (low, (omega (arith, same), from.1))
    at false e rest = (from.0, rest e)

-- ---- the trees
-- where a handle stands in a scope, by its label
stands_in : (q t : ℕ) (ss : List Scoped) → label_in q ss ≡ Some t → 0 < times_among q (scope_of t ss)
stands_in q t [] is = absurd cc
stands_in q t (s ∷ ss) is = at (s.handle == q) refl (λ e. stands_in q t ss (label_next q s ss (Some t) e is))
  where
    at : (c : Bool) → (s.handle == q) ≡ c → ((s.handle == q) ≡ false → 0 < times_among q (scope_of t ss)) → 0 < times_among q (scope_of t (s ∷ ss))
    at true e rest = subst (λ k. 0 < times_among q (scope_of k (s ∷ ss))) (label_here q s ss t e is) (subst (λ hs. 0 < times_among q hs) (sym (own_first s ss)) (omega (arith, hit_is s.handle q true e)))
    at false e rest = more_among q t s ss (rest e)

-- no handle stands in two scopes
apart_scopes : (t u q : ℕ) (ss : List Scoped) → times_in q ss ≤ 1 → (t == u) ≡ false → 0 < times_among q (scope_of t ss) → 0 < times_among q (scope_of u ss) → ⊥
apart_scopes t u q [] once other here there = absurd (omega (arith, here))
apart_scopes t u q (s ∷ ss) once other here there = at (s.handle == q) refl (s.label == t) (s.label == u) refl refl (λ x y. apart_scopes t u q ss (omega (arith, once)) other x y)
  where
    rest : (v : ℕ) (c : Bool) → (s.label == v) ≡ c → (s.handle == q) ≡ false → 0 < times_among q (if c then s.handle ∷ scope_of v ss else scope_of v ss) → 0 < times_among q (scope_of v ss)
    rest v true e f some = omega (arith, some, hit_is s.handle q false f)
    rest v false e f some = some

    at : (b : Bool) → (s.handle == q) ≡ b → (c d : Bool) → (s.label == t) ≡ c → (s.label == u) ≡ d → (0 < times_among q (scope_of t ss) → 0 < times_among q (scope_of u ss) → ⊥) → ⊥
    at false e c d f g further = further (rest t (s.label == t) refl e here) (rest u (s.label == u) refl e there)
    at true e true true f g further = clash (t == u) (ap (λ k. k == u) (sym (same_number s.label t f)) ∙ g) other
    at true e true false f g further =
        let out : 0 < times_among q (scope_of u ss) = subst (λ c. 0 < times_among q (if c then s.handle ∷ scope_of u ss else scope_of u ss)) g there in
        omega (arith, out, times_of_scope u q ss, once, hit_is s.handle q true e)
    at true e false d f g further =
        let out : 0 < times_among q (scope_of t ss) = subst (λ c. 0 < times_among q (if c then s.handle ∷ scope_of t ss else scope_of t ss)) f here in
        omega (arith, out, times_of_scope t q ss, once, hit_is s.handle q true e)

-- where one stands above, there is one
some_above : (o : Option ℕ) (x : ℕ) (xs : List ℕ) → above_of o (Some x) xs ≡ None → ⊥
some_above o x [] none = absurd cc
some_above None x (y ∷ ys) none = some_above None y ys none
some_above (Some d) x (y ∷ ys) none = at (y == d) none (λ n. some_above (Some d) y ys n)
  where
    at : (c : Bool) → (if c then Some x else above_of (Some d) (Some y) ys) ≡ None → (above_of (Some d) (Some y) ys ≡ None → ⊥) → ⊥
    at true n rest = absurd cc
    at false n rest = rest n

-- the first of a scope, once a handle is put in
first_now : (o : Option ℕ) (h : ℕ) (xs : List ℕ) → goes_in o xs → above_of o None xs ≡ None → first_of (put_above o h xs) ≡ Some h
first_now None h [] goes none = refl
first_now None h (x ∷ xs) goes none = absurd (some_above None x xs none)
first_now (Some d) h [] goes none = refl
first_now (Some d) h (x ∷ xs) goes none = at (x == d) refl none
  where
    at : (c : Bool) → (x == d) ≡ c → (if c then None else above_of (Some d) (Some x) xs) ≡ None → first_of (if c then h ∷ x ∷ xs else x ∷ put_above (Some d) h xs) ≡ Some h
    at true e n = refl
    at false e n = absurd (some_above (Some d) x xs n)

first_still : (o : Option ℕ) (h a : ℕ) (xs : List ℕ) → above_of o None xs ≡ Some a → first_of (put_above o h xs) ≡ first_of xs
first_still o h a [] is = absurd cc
first_still None h a (x ∷ xs) is = refl
first_still (Some d) h a (x ∷ xs) is = at (x == d) is
  where
    at : (c : Bool) → (if c then None else above_of (Some d) (Some x) xs) ≡ Some a → first_of (if c then h ∷ x ∷ xs else x ∷ put_above (Some d) h xs) ≡ Some x
    at true e = absurd cc
    at false e = refl

-- it stands further on, where it isn't the first
above_next : (a x : ℕ) (xs : List ℕ) → (((z : ℕ) → Some x ≡ Some z → a ≡ z → ⊥) → 0 < times_among a xs) → 0 < times_among a (x ∷ xs)
above_next a x xs rest = at (x == a) refl
  where
    at : (c : Bool) → (x == a) ≡ c → 0 < times_among a (x ∷ xs)
    at true e = omega (arith, hit_is x a true e)
    at false e =
        let further : 0 < times_among a xs = rest (λ z one same. clash (x == a) (ap (λ k. k == a) (some_same x z one ∙ sym same) ∙ itself a) e) in
        omega (arith, further)

-- the one above stands there, too
above_in : (o later : Option ℕ) (a : ℕ) (xs : List ℕ) → ((z : ℕ) → later ≡ Some z → a ≡ z → ⊥) → above_of o later xs ≡ Some a → 0 < times_among a xs
above_in o later a [] other is = absurd (other a is refl)
above_in None later a (x ∷ xs) other is = above_next a x xs (λ f. above_in None (Some x) a xs f is)
above_in (Some d) later a (x ∷ xs) other is = at (x == d) is (λ f m. above_in (Some d) (Some x) a xs f m)
  where
    at : (c : Bool) → (if c then later else above_of (Some d) (Some x) xs) ≡ Some a
        → (((z : ℕ) → Some x ≡ Some z → a ≡ z → ⊥) → above_of (Some d) (Some x) xs ≡ Some a → 0 < times_among a xs) → 0 < times_among a (x ∷ xs)
    at true m rest = absurd (other a m refl)
    at false m rest = above_next a x xs (λ f. rest f m)

module _ (places : FinMap nat_cmp Place) (last : FinMap nat_cmp ℕ) (ss : List Scoped) (t h : ℕ) (o : Option ℕ) (x : AreLinked places last ss) (new : times_in h ss ≡ 0) (stands : IsAbove o t ss) where
  abbrev scope : List ℕ
  scope = scope_of t ss

  abbrev above : Option ℕ
  above = above_of o None scope

  abbrev place : Place
  place = record { label = t; earlier = o; later = above }

  abbrev linked_so : FinMap nat_cmp Place
  linked_so = relinked_earlier (relinked_later places o (Some h)) above (Some h)

  abbrev grown : FinMap nat_cmp Place
  grown = insert linked_so h place

  steps : (q : ℕ) → get linked_so q
      ≡ (if is_at above q then earlier_set (Some h) (if is_at o q then later_set (Some h) (get places q) else get places q) else (if is_at o q then later_set (Some h) (get places q) else get places q))
  steps q =
      get_earlier (relinked_later places o (Some h)) above (Some h) q
      ∙ ap (λ (p : Option Place). if is_at above q then earlier_set (Some h) p else p) (get_later places o (Some h) q)

  steps_some : (p : Place) (before after : Bool)
      → (if after then earlier_set (Some h) (if before then later_set (Some h) (Some p) else Some p) else (if before then later_set (Some h) (Some p) else Some p))
      ≡ Some (record { label = p.label; earlier = if after then Some h else p.earlier; later = if before then Some h else p.later })
  steps_some p true true = refl
  steps_some p true false = refl
  steps_some p false true = refl
  steps_some p false false = refl

  steps_none : (before after : Bool)
      → (if after then earlier_set (Some h) (if before then later_set (Some h) None else None) else (if before then later_set (Some h) None else None)) ≡ None
  steps_none true true = refl
  steps_none true false = refl
  steps_none false true = refl
  steps_none false false = refl

  own_place : get grown h ≡ Some place
  own_place = get_inserted linked_so h place h ∙ ap (λ c. if c then Some place else get linked_so h) (itself h)

  others : (q : ℕ) (p : Place) → (h == q) ≡ false → get places q ≡ Some p
      → get grown q ≡ Some (record { label = p.label; earlier = if is_at above q then Some h else p.earlier; later = if is_at o q then Some h else p.later })
  others q p other there =
      get_inserted linked_so h place q
      ∙ ap (λ c. if c then Some place else get linked_so q) other
      ∙ steps q
      ∙ ap (λ (z : Option Place). if is_at above q then earlier_set (Some h) (if is_at o q then later_set (Some h) z else z) else (if is_at o q then later_set (Some h) z else z)) there
      ∙ steps_some p (is_at o q) (is_at above q)

  few : (u q : ℕ) → times_among q (scope_of u ss) ≤ 1
  few u q = omega (arith, times_of_scope u q ss, x.once q)

  none_of : (u : ℕ) → times_among h (scope_of u ss) ≡ 0
  none_of u = omega (arith, times_of_scope u h ss, new)

  goes : (o : Option ℕ) → IsAbove o t ss → goes_in o scope
  goes None is = tt
  goes (Some d) is = stands_in d t ss is

  own_chain : AreChained grown t None (put_above o h scope)
  own_chain = enters places grown t h o above own_place others o None scope refl refl (goes o stands) (none_of t) (few t) (λ z e. absurd cc) (x.chains t)

  -- of another scope none is a neighbour
  unlike : (u q d : ℕ) → (t == u) ≡ false → 0 < times_among d scope → 0 < times_among q (scope_of u ss) → (d == q) ≡ false
  unlike u q d other here there = at (d == q) refl
    where
      at : (c : Bool) → (d == q) ≡ c → c ≡ false
      at true e = absurd (apart_scopes t u q ss (x.once q) other (subst (λ k. 0 < times_among k scope) (same_number d q e) here) there)
      at false e = refl

  other_chain : (u : ℕ) → (t == u) ≡ false → AreChained grown u None (scope_of u ss)
  other_chain u other = still places grown t h o above own_place others u None (scope_of u ss) (λ q some. (held_apart q some, (from_above_one q some above refl, from_under q some o stands))) (x.chains u)
    where
      held_apart : (q : ℕ) → 0 < times_among q (scope_of u ss) → (h == q) ≡ false
      held_apart q some = at (h == q) refl
        where
          at : (c : Bool) → (h == q) ≡ c → c ≡ false
          at true e = let none : times_among q (scope_of u ss) ≡ 0 = subst (λ k. times_among k (scope_of u ss) ≡ 0) (same_number h q e) (none_of u) in absurd (omega (arith, none, some))
          at false e = refl

      from_under : (q : ℕ) → 0 < times_among q (scope_of u ss) → (o : Option ℕ) → IsAbove o t ss → is_at o q ≡ false
      from_under q some None is = refl
      from_under q some (Some d) is = unlike u q d other (stands_in d t ss is) some

      from_above_one : (q : ℕ) → 0 < times_among q (scope_of u ss) → (l : Option ℕ) → above ≡ l → is_at l q ≡ false
      from_above_one q some None is = refl
      from_above_one q some (Some a) is = unlike u q a other (above_in o None a scope (λ z e same. absurd cc) is) some

  chain_now : (u : ℕ) (c : Bool) → (t == u) ≡ c → AreChained grown u None (scope_of u (entered_above t h o ss))
  chain_now u true same =
      subst (λ k. AreChained grown k None (scope_of k (entered_above t h o ss))) (same_number t u same)
      (subst (λ hs. AreChained grown t None hs) (sym (scope_own t h o 0 ss x.in_order stands)) own_chain)
  chain_now u false other = subst (λ hs. AreChained grown u None hs) (sym (scope_other t h o u ss other)) (other_chain u other)

  head_now : (u : ℕ) (c : Bool) → (t == u) ≡ c → (a : Option ℕ) → above ≡ a → get (last_with last t h a) u ≡ first_of (scope_of u (entered_above t h o ss))
  head_now u true same None is =
      get_inserted last t h u ∙ ap (λ c. if c then Some h else get last u) same
      ∙ sym (first_now o h scope (goes o stands) is)
      ∙ sym (ap first_of (scope_own t h o 0 ss x.in_order stands))
      ∙ ap (λ k. first_of (scope_of k (entered_above t h o ss))) (same_number t u same)
  head_now u true same (Some a) is =
      ap (get last) (sym (same_number t u same)) ∙ x.heads t
      ∙ sym (first_still o h a scope is)
      ∙ sym (ap first_of (scope_own t h o 0 ss x.in_order stands))
      ∙ ap (λ k. first_of (scope_of k (entered_above t h o ss))) (same_number t u same)
  head_now u false other None is =
      get_inserted last t h u ∙ ap (λ c. if c then Some h else get last u) other ∙ x.heads u ∙ sym (ap first_of (scope_other t h o u ss other))
  head_now u false other (Some a) is = x.heads u ∙ sym (ap first_of (scope_other t h o u ss other))

  only_now : (q : ℕ) (c : Bool) → times_in q (entered_above t h o ss) ≡ 0 → (h == q) ≡ c → (if c then Some place else get linked_so q) ≡ None
  only_now q true none same = absurd (omega (arith, none, times_above t h o q ss, hit_is h q true same))
  only_now q false none other =
      steps q
      ∙ ap (λ (z : Option Place). if is_at above q then earlier_set (Some h) (if is_at o q then later_set (Some h) z else z) else (if is_at o q then later_set (Some h) z else z))
      (x.only q (omega (arith, none, times_above t h o q ss)))
      ∙ steps_none (is_at o q) (is_at above q)

  once_now : (q : ℕ) (c : Bool) → (h == q) ≡ c → times_in q (entered_above t h o ss) ≤ 1
  once_now q true same =
      let none : times_in q ss ≡ 0 = subst (λ k. times_in k ss ≡ 0) (same_number h q same) new in
      omega (arith, none, times_above t h o q ss, hit_is h q true same)
  once_now q false other = omega (arith, x.once q, times_above t h o q ss, hit_is h q false other)

  grown_linked : AreLinked grown (last_with last t h above) (entered_above t h o ss)
  grown_linked = record {
    chains = λ u. chain_now u (t == u) refl;
    heads = λ u. head_now u (t == u) refl above refl;
    only = λ q none. get_inserted linked_so h place q ∙ only_now q (h == q) none refl;
    once = λ q. once_now q (h == q) refl;
    in_order = from_above t h o 0 ss (omega arith) x.in_order stands;
  }

  pub above_linked : (a : Option ℕ) → a ≡ above
      → AreLinked (insert (relinked_earlier (relinked_later places o (Some h)) a (Some h)) h (record { label = t; earlier = o; later = a })) (last_with last t h a) (entered_above t h o ss)
  above_linked a is =
      subst (λ (y : Option ℕ). AreLinked (insert (relinked_earlier (relinked_later places o (Some h)) y (Some h)) h (record { label = t; earlier = o; later = y })) (last_with last t h y) (entered_above t h o ss)) (sym is) grown_linked

-- ---- the one above it is its neighbour
module _ (places : FinMap nat_cmp Place) (t d : ℕ) (p : Place) (here : get places d ≡ Some p) where
  chain_above : (later : Option ℕ) (hs : List ℕ) → AreChained places t later hs → 0 < times_among d hs → p.later ≡ above_of (Some d) later hs
  chain_above later [] c some = absurd (omega (arith, some))
  chain_above later (x ∷ xs) c some = at (x == d) refl (λ e. chain_above (Some x) xs c.1 (omega (arith, some, hit_is x d false e)))
    where
      at : (y : Bool) → (x == d) ≡ y → ((x == d) ≡ false → p.later ≡ above_of (Some d) (Some x) xs) → p.later ≡ (if y then later else above_of (Some d) (Some x) xs)
      at true e rest = ap (λ (z : Place). z.later) (first_place places t x d later xs p c e here)
      at false e rest = rest e

-- the handle made just after the one that has this place, of those still in the scope
abbrev pub later_at : Option Place → Option ℕ
later_at None = None
later_at (Some p) = p.later

pub later_linked : (places : FinMap nat_cmp Place) (last : FinMap nat_cmp ℕ) (ss : List Scoped) → AreLinked places last ss → (t d : ℕ) → IsAbove (Some d) t ss → later_at (get places d) ≡ above_of (Some d) None (scope_of t ss)
later_linked places last ss x t d is = of (get places d) refl
  where
    of : (o : Option Place) → get places d ≡ o → later_at o ≡ above_of (Some d) None (scope_of t ss)
    of None none = absurd (let some : is_some (get places d) ≡ true = chain_held places t None (scope_of t ss) d (x.chains t) (stands_in d t ss is) in let no : is_some (get places d) ≡ false = ap is_some none in cc)
    of (Some p) here = chain_above places t d p here None (scope_of t ss) (x.chains t) (stands_in d t ss is)
