-- Where a handle stands in its scope: of two scopes that are the same without it, both are the same with it, where the first handle
-- under it is.
use Rattle.std.proofs.Common.{◌≡◌, ℕ, List, [], ◌∷◌, refl, ap, ◌∙◌, sym, subst, Bool, true, false}
use Rattle.std.specs.Prelude.{Option, Some, None, ◌==◌, ◌||◌, if◌then◌else◌, filter, not}
use Rattle.trace_types.specs.declared.slots.Scoped.{Scoped}
use Rattle.ownership_model.specs.Reach.{has}
use Rattle.ownership_model.specs.Scopes.{scope_of}
use Rattle.ownership_model.specs.State.{State}
use Rattle.ownership_model.proofs.Counting.{same_number}
use Rattle.ownership_model.proofs.Scoping.{own_first}
use Rattle.object_heap.specs.Links.{first_of, earlier_in, label_in, under, put_above}
use Rattle.object_heap.proofs.UnderLemmas.{AreOnce, once_rest, no_times, absent, absent_next, under_miss, under_hit, earlier_under, under_next}
use Rattle.heap_difference.specs.Differences.{AreScopesAlike, less, StandsAlike}
use Rattle.heap_difference.proofs.Tests.{clash, not_false, not_true, left_false, right_false, is_false, contrary, itself, or_right, filter_keeps, filter_drops, filter_skip}

-- the handles of a list behind this one
abbrev pub after : ℕ → List ℕ → List ℕ
after h [] = []
after h (x ∷ xs) = if x == h then xs else after h xs

-- no handle comes twice
abbrev pub AreDistinct : List ℕ → Type 0
AreDistinct [] = Unit {0}
AreDistinct (x ∷ xs) = (has x xs ≡ false) × AreDistinct xs

-- ---- in which scope a handle stands
distinct_next : (t : ℕ) (s : Scoped) (ss : List Scoped) (b : Bool) → has s.handle (scope_of t ss) ≡ false → AreDistinct (scope_of t ss) → AreDistinct (if b then s.handle ∷ scope_of t ss else scope_of t ss)
distinct_next t s ss true new rest = (new, rest)
distinct_next t s ss false new rest = rest

pub distinct_scope : (t : ℕ) (ss : List Scoped) → AreOnce ss → AreDistinct (scope_of t ss)
distinct_scope t [] once = tt
distinct_scope t (s ∷ ss) once =
    distinct_next t s ss (s.label == t) (absent s.handle t ss (no_times s ss s.handle once (itself s.handle))) (distinct_scope t ss (once_rest s ss once))

pub some_same : (a b : ℕ) → Some a ≡ Some b → a ≡ b
some_same a b e = ap (λ (x : Option ℕ). of x) e
  where
    of : Option ℕ → ℕ
    of None = 0
    of (Some x) = x

label_hit : (q : ℕ) (s : Scoped) (ss : List Scoped) (o : Option ℕ) → (s.handle == q) ≡ true → label_in q (s ∷ ss) ≡ o → Some s.label ≡ o
label_hit q s ss o e is = sym (ap (λ b. if b then Some s.label else label_in q ss) e) ∙ is

label_miss : (q : ℕ) (s : Scoped) (ss : List Scoped) (o : Option ℕ) → (s.handle == q) ≡ false → label_in q (s ∷ ss) ≡ o → label_in q ss ≡ o
label_miss q s ss o e is = sym (ap (λ b. if b then Some s.label else label_in q ss) e) ∙ is

-- a handle stands in the scope of its label
has_next : (q t : ℕ) (s : Scoped) (ss : List Scoped) (b : Bool) → has q (scope_of t ss) ≡ true → has q (if b then s.handle ∷ scope_of t ss else scope_of t ss) ≡ true
has_next q t s ss true here = or_right (s.handle == q) (has q (scope_of t ss)) here
has_next q t s ss false here = here

pub in_own : (q t : ℕ) (ss : List Scoped) → label_in q ss ≡ Some t → has q (scope_of t ss) ≡ true
in_own q t [] is = absurd cc
in_own q t (s ∷ ss) is = elim (s.handle == q) as (λ b. (s.handle == q) ≡ b → has q (scope_of t (s ∷ ss)) ≡ true) [
  | true ↦ λ e.
      let label : s.label ≡ t = some_same s.label t (label_hit q s ss (Some t) e is) in
      subst (λ u. has q (scope_of u (s ∷ ss)) ≡ true) label (ap (has q) (own_first s ss) ∙ ap (λ b. b || has q (scope_of s.label ss)) e)
  | false ↦ λ e. has_next q t s ss (s.label == t) (in_own q t ss (label_miss q s ss (Some t) e is))
] refl

-- and in that of no other
pub in_no_other : (q t u : ℕ) (ss : List Scoped) → AreOnce ss → label_in q ss ≡ Some t → (t == u) ≡ false → has q (scope_of u ss) ≡ false
in_no_other q t u [] once is apart = refl
in_no_other q t u (s ∷ ss) once is apart = elim (s.handle == q) as (λ b. (s.handle == q) ≡ b → has q (scope_of u (s ∷ ss)) ≡ false) [
  | true ↦ λ e.
      let label : s.label ≡ t = some_same s.label t (label_hit q s ss (Some t) e is) in
      ap (λ b. has q (if b then s.handle ∷ scope_of u ss else scope_of u ss)) (ap (λ l. l == u) label ∙ apart) ∙ absent q u ss (no_times s ss q once e)
  | false ↦ λ e. absent_next q u s ss (s.label == u) e (in_no_other q t u ss (once_rest s ss once) (label_miss q s ss (Some t) e is) apart)
] refl

pub in_none : (q u : ℕ) (ss : List Scoped) → label_in q ss ≡ None → has q (scope_of u ss) ≡ false
in_none q u [] is = refl
in_none q u (s ∷ ss) is = elim (s.handle == q) as (λ b. (s.handle == q) ≡ b → has q (scope_of u (s ∷ ss)) ≡ false) [
  | true ↦ λ e. absurd (let f : Some s.label ≡ None = label_hit q s ss None e is in cc)
  | false ↦ λ e. absent_next q u s ss (s.label == u) e (in_none q u ss (label_miss q s ss None e is))
] refl

-- a handle that stands in a scope has its label
pub label_of_member : (q t : ℕ) (ss : List Scoped) → AreOnce ss → has q (scope_of t ss) ≡ true → label_in q ss ≡ Some t
label_of_member q t ss once here = by (label_in q ss) refl
  where
    same : (u : ℕ) (b : Bool) → (u == t) ≡ b → label_in q ss ≡ Some u → label_in q ss ≡ Some t
    same u true e is = is ∙ ap (λ n. Some n) (same_number u t e)
    same u false e is = absurd (clash (has q (scope_of t ss)) here (in_no_other q u t ss once is e))

    by : (o : Option ℕ) → label_in q ss ≡ o → label_in q ss ≡ Some t
    by None is = absurd (clash (has q (scope_of t ss)) here (in_none q t ss is))
    by (Some u) is = same u (u == t) refl is

-- ---- what is under it
after_skips : (q x : ℕ) (xs : List ℕ) (b : Bool) → (x == q) ≡ false → after q xs ≡ after q (if b then x ∷ xs else xs)
after_skips q x xs true other = sym (ap (λ b. if b then xs else after q xs) other)
after_skips q x xs false other = refl

pub under_after : (q t : ℕ) (ss : List Scoped) → label_in q ss ≡ Some t → under q ss ≡ after q (scope_of t ss)
under_after q t [] is = refl
under_after q t (s ∷ ss) is = elim (s.handle == q) as (λ b. (s.handle == q) ≡ b → under q (s ∷ ss) ≡ after q (scope_of t (s ∷ ss))) [
  | true ↦ λ e.
      let label : s.label ≡ t = some_same s.label t (label_hit q s ss (Some t) e is) in
      under_hit q s ss e
      ∙ sym (ap (λ b. if b then scope_of s.label ss else after q (scope_of s.label ss)) e)
      ∙ sym (ap (after q) (own_first s ss))
      ∙ ap (λ u. after q (scope_of u (s ∷ ss))) label
  | false ↦ λ e. under_miss q s ss e ∙ under_after q t ss (label_miss q s ss (Some t) e is) ∙ after_skips q s.handle (scope_of t ss) (s.label == t) e
] refl

-- ---- a handle less in the set
module _ (k : ℕ → Bool) (h : ℕ) where
  -- the others pass as before
  less_other : (g : ℕ) → (h == g) ≡ false → not (less k h g) ≡ not (k g)
  less_other g other = ap (λ b. not (if b then false else k g)) other

  less_own : (g : ℕ) → (h == g) ≡ true → not (less k h g) ≡ true
  less_own g own = ap (λ b. not (if b then false else k g)) own

  turned : (x y : ℕ) → (x == y) ≡ false → (y == x) ≡ false
  turned x y other = elim (y == x) as (λ b. (y == x) ≡ b → b ≡ false) [
    | true ↦ λ e. absurd (clash (x == y) (sym (ap (λ z. z == y) (same_number y x e)) ∙ itself y) other)
    | false ↦ λ e. refl
  ] refl

  one_same : (x : ℕ) (xs ys : List ℕ) (b c : Bool) → b ≡ c → xs ≡ ys → (if b then x ∷ xs else xs) ≡ (if c then x ∷ ys else ys)
  one_same x xs ys b c e same = λ i. if e i then x ∷ same i else same i

  -- where it doesn't stand nothing is more
  pub filter_same : (xs : List ℕ) → has h xs ≡ false → filter (λ g. not (less k h g)) xs ≡ filter (λ g. not (k g)) xs
  filter_same [] none = refl
  filter_same (x ∷ xs) none =
      one_same x (filter (λ g. not (less k h g)) xs) (filter (λ g. not (k g)) xs) (not (less k h x)) (not (k x))
      (less_other x (turned x h (left_false (x == h) (has h xs) none))) (filter_same xs (right_false (x == h) (has h xs) none))

  -- where it wasn't in the set nothing is more
  pub filter_was : k h ≡ false → (xs : List ℕ) → filter (λ g. not (less k h g)) xs ≡ filter (λ g. not (k g)) xs
  filter_was out [] = refl
  filter_was out (x ∷ xs) = one_same x (filter (λ g. not (less k h g)) xs) (filter (λ g. not (k g)) xs) (not (less k h x)) (not (k x)) (at (h == x) refl) (filter_was out xs)
    where
      at : (b : Bool) → (h == x) ≡ b → not (less k h x) ≡ not (k x)
      at true e = less_own x e ∙ sym (not_false (k x) (ap k (sym (same_number h x e)) ∙ out))
      at false e = less_other x e

  -- it goes before what is first under it
  put_first : (xs : List ℕ) → put_above (first_of xs) h xs ≡ h ∷ xs
  put_first [] = refl
  put_first (x ∷ xs) = ap (λ b. if b then h ∷ x ∷ xs else x ∷ put_above (Some x) h xs) (itself x)

  put_later : (o : Option ℕ) (x : ℕ) (xs : List ℕ) → ((b : ℕ) → o ≡ Some b → (x == b) ≡ false) → put_above o h (x ∷ xs) ≡ x ∷ put_above o h xs
  put_later None x xs other = refl
  put_later (Some b) x xs other = ap (λ c. if c then h ∷ x ∷ xs else x ∷ put_above (Some b) h xs) (other b refl)

  -- the first that passes stands in the list
  pub first_in : (p : ℕ → Bool) (xs : List ℕ) (b : ℕ) → first_of (filter p xs) ≡ Some b → has b xs ≡ true
  first_in p [] b is = absurd cc
  first_in p (x ∷ xs) b is = at (p x) refl (λ e. first_in p xs b e)
    where
      at : (c : Bool) → p x ≡ c → (first_of (filter p xs) ≡ Some b → has b xs ≡ true) → has b (x ∷ xs) ≡ true
      at true e rest = ap (λ c. c || has b xs) (ap (λ z. z == b) (some_same x b (sym (ap first_of (filter_keeps p x xs e)) ∙ is)) ∙ itself b)
      at false e rest = or_right (x == b) (has b xs) (rest (sym (ap first_of (filter_drops p x xs e)) ∙ is))

  pub after_has : (b : ℕ) (xs : List ℕ) → has b (after h xs) ≡ true → has b xs ≡ true
  after_has b [] here = here
  after_has b (x ∷ xs) here = or_right (x == b) (has b xs) (at (x == h) refl (λ e. after_has b xs e))
    where
      at : (c : Bool) → (x == h) ≡ c → (has b (after h xs) ≡ true → has b xs ≡ true) → has b xs ≡ true
      at true e rest = sym (ap (λ c. has b (if c then xs else after h xs)) e) ∙ here
      at false e rest = rest (sym (ap (λ c. has b (if c then xs else after h xs)) e) ∙ here)

  pub filter_put : k h ≡ true → (xs : List ℕ) → AreDistinct xs → has h xs ≡ true
      → filter (λ g. not (less k h g)) xs ≡ put_above (first_of (filter (λ g. not (k g)) (after h xs))) h (filter (λ g. not (k g)) xs)
  filter_put in_set [] distinct here = absurd cc
  filter_put in_set (x ∷ xs) distinct here = at (x == h) refl (λ e. filter_put in_set xs distinct.1 e)
    where
      out : ℕ → Bool
      out g = not (k g)

      more : ℕ → Bool
      more g = not (less k h g)

      own : (x == h) ≡ true → (h == x) ≡ true
      own e = ap (λ z. h == z) (same_number x h e) ∙ itself h

      elsewhere : (x == h) ≡ false → has h xs ≡ true
      elsewhere e = sym (ap (λ b. b || has h xs) e) ∙ here

      next : (b : Bool) → not (k x) ≡ b → (x == h) ≡ false → filter more xs ≡ put_above (first_of (filter out (after h xs))) h (filter out xs)
          → filter more (x ∷ xs) ≡ put_above (first_of (filter out (after h xs))) h (filter out (x ∷ xs))
      next true e other so_far =
          filter_keeps more x xs (less_other x (turned x h other) ∙ e)
          ∙ ap (λ ys. x ∷ ys) so_far
          ∙ sym (put_later (first_of (filter out (after h xs))) x (filter out xs) (λ b is. unlike b (after_has b xs (first_in out (after h xs) b is))))
          ∙ sym (ap (put_above (first_of (filter out (after h xs))) h) (filter_keeps out x xs e))
        where
          unlike : (b : ℕ) → has b xs ≡ true → (x == b) ≡ false
          unlike b stands = elim (x == b) as (λ c. (x == b) ≡ c → c ≡ false) [
            | true ↦ λ f. absurd (clash (has b xs) stands (ap (λ z. has z xs) (sym (same_number x b f)) ∙ distinct.0))
            | false ↦ λ f. refl
          ] refl
      next false e other so_far =
          filter_drops more x xs (less_other x (turned x h other) ∙ e)
          ∙ so_far
          ∙ sym (ap (put_above (first_of (filter out (after h xs))) h) (filter_drops out x xs e))

      at : (b : Bool) → (x == h) ≡ b → (has h xs ≡ true → filter more xs ≡ put_above (first_of (filter out (after h xs))) h (filter out xs))
          → filter more (x ∷ xs) ≡ put_above (first_of (filter out (after h (x ∷ xs)))) h (filter out (x ∷ xs))
      at true e rest =
          let gone : filter out (x ∷ xs) ≡ filter out xs = filter_drops out x xs (not_true (k x) (ap k (same_number x h e) ∙ in_set)) in
          let behind : after h (x ∷ xs) ≡ xs = ap (λ b. if b then xs else after h xs) e in
          let none : has h xs ≡ false = ap (λ z. has z xs) (sym (same_number x h e)) ∙ distinct.0 in
          filter_keeps more x xs (less_own x (own e))
          ∙ ap (λ ys. x ∷ ys) (filter_same xs none)
          ∙ ap (λ z. z ∷ filter out xs) (same_number x h e)
          ∙ sym (put_first (filter out xs))
          ∙ sym (ap (λ ys. put_above (first_of (filter out ys)) h (filter out xs)) behind)
          ∙ sym (ap (put_above (first_of (filter out (after h (x ∷ xs)))) h) gone)
      at false e rest =
          let behind : after h (x ∷ xs) ≡ after h xs = ap (λ b. if b then xs else after h xs) e in
          next (not (k x)) refl e (rest (elsewhere e))
          ∙ sym (ap (λ ys. put_above (first_of (filter out ys)) h (filter out (x ∷ xs))) behind)

  -- what is behind it is the same, whether those in the set are taken out before or after
  pub filter_after : (xs : List ℕ) → AreDistinct xs → after h (filter (λ g. not (less k h g)) xs) ≡ filter (λ g. not (k g)) (after h xs)
  filter_after [] distinct = refl
  filter_after (x ∷ xs) distinct = at (x == h) refl (filter_after xs distinct.1)
    where
      out : ℕ → Bool
      out g = not (k g)

      more : ℕ → Bool
      more g = not (less k h g)

      next : (b : Bool) → more x ≡ b → (x == h) ≡ false → after h (filter more (x ∷ xs)) ≡ after h (filter more xs)
      next true e other = ap (after h) (filter_keeps more x xs e) ∙ ap (λ b. if b then filter more xs else after h (filter more xs)) other
      next false e other = ap (after h) (filter_drops more x xs e)

      at : (b : Bool) → (x == h) ≡ b → after h (filter more xs) ≡ filter out (after h xs) → after h (filter more (x ∷ xs)) ≡ filter out (after h (x ∷ xs))
      at true e so_far =
          let passes : more x ≡ true = less_own x (ap (λ z. h == z) (same_number x h e) ∙ itself h) in
          let none : has h xs ≡ false = ap (λ z. has z xs) (sym (same_number x h e)) ∙ distinct.0 in
          ap (after h) (filter_keeps more x xs passes)
          ∙ ap (λ b. if b then filter more xs else after h (filter more xs)) e
          ∙ filter_same xs none
          ∙ sym (ap (filter out) (ap (λ b. if b then xs else after h xs) e))
      at false e so_far =
          next (more x) refl e
          ∙ so_far
          ∙ sym (ap (filter out) (ap (λ b. if b then xs else after h xs) e))

-- ---- what passes
pub has_filtered : (p : ℕ → Bool) (h : ℕ) (xs : List ℕ) → has h (filter p xs) ≡ true → has h xs ≡ true
has_filtered p h [] here = here
has_filtered p h (x ∷ xs) here = at (p x) (x == h) refl refl (λ t. has_filtered p h xs t)
  where
    at : (b c : Bool) → p x ≡ b → (x == h) ≡ c → (has h (filter p xs) ≡ true → has h xs ≡ true) → (c || has h xs) ≡ true
    at b true e f rest = refl
    at true false e f rest = rest (sym (ap (λ b. b || has h (filter p xs)) f) ∙ sym (ap (has h) (filter_keeps p x xs e)) ∙ here)
    at false false e f rest = rest (sym (ap (has h) (filter_drops p x xs e)) ∙ here)

pub filter_has : (p : ℕ → Bool) (h : ℕ) (xs : List ℕ) → p h ≡ true → has h xs ≡ true → has h (filter p xs) ≡ true
filter_has p h [] passes here = here
filter_has p h (x ∷ xs) passes here = at (x == h) refl (λ t. filter_has p h xs passes t)
  where
    or_has : (b : Bool) → has h (filter p xs) ≡ true → has h (if b then x ∷ filter p xs else filter p xs) ≡ true
    or_has true t = or_right (x == h) (has h (filter p xs)) t
    or_has false t = t

    at : (b : Bool) → (x == h) ≡ b → (has h xs ≡ true → has h (filter p xs) ≡ true) → has h (filter p (x ∷ xs)) ≡ true
    at true e rest = ap (has h) (filter_keeps p x xs (ap p (same_number x h e) ∙ passes)) ∙ ap (λ b. b || has h (filter p xs)) e
    at false e rest = or_has (p x) (rest (sym (ap (λ b. b || has h xs) e) ∙ here))

under_none : (q : ℕ) (ss : List Scoped) → label_in q ss ≡ None → under q ss ≡ []
under_none q [] is = refl
under_none q (s ∷ ss) is = elim (s.handle == q) as (λ b. (s.handle == q) ≡ b → under q (s ∷ ss) ≡ []) [
  | true ↦ λ e. absurd (let f : Some s.label ≡ None = label_hit q s ss None e is in cc)
  | false ↦ λ e. under_miss q s ss e ∙ under_none q ss (label_miss q s ss None e is)
] refl

-- where a handle stands alike in both, its label is the same, and the first handle under it
module _ (k : ℕ → Bool) (h : ℕ) (old new : State) (once : AreOnce old.scopes) (once_too : AreOnce new.scopes) (same : AreScopesAlike (less k h) old new) where
  abbrev pub more_of : ℕ → Bool
  more_of g = not (less k h g)

  carries : (a b : State) → AreOnce b.scopes → ((t : ℕ) → filter more_of (scope_of t a.scopes) ≡ filter more_of (scope_of t b.scopes)) → (t : ℕ) → label_in h a.scopes ≡ Some t → label_in h b.scopes ≡ Some t
  carries a b single alike t is =
      label_of_member h t b.scopes single
      (has_filtered more_of h (scope_of t b.scopes)
      (sym (ap (has h) (alike t)) ∙ filter_has more_of h (scope_of t a.scopes) (less_own k h h (itself h)) (in_own h t a.scopes is)))

  pub label_alike : label_in h old.scopes ≡ label_in h new.scopes
  label_alike = by (label_in h old.scopes) (label_in h new.scopes) refl refl
    where
      by : (a b : Option ℕ) → label_in h old.scopes ≡ a → label_in h new.scopes ≡ b → a ≡ b
      by None None e f = refl
      by None (Some t) e f = sym e ∙ carries new old once (λ u. sym (same u)) t f
      by (Some t) b e f = sym (carries old new once_too same t e) ∙ f

  pub under_alike : first_of (filter (λ g. not (k g)) (under h old.scopes)) ≡ first_of (filter (λ g. not (k g)) (under h new.scopes))
  under_alike = by (label_in h old.scopes) refl
    where
      of : (ys : List ℕ) → Option ℕ
      of ys = first_of (filter (λ g. not (k g)) ys)

      by : (o : Option ℕ) → label_in h old.scopes ≡ o → of (under h old.scopes) ≡ of (under h new.scopes)
      by None e = ap of (under_none h old.scopes e) ∙ sym (ap of (under_none h new.scopes (sym label_alike ∙ e)))
      by (Some t) e =
          ap of (under_after h t old.scopes e)
          ∙ sym (ap first_of (filter_after k h (scope_of t old.scopes) (distinct_scope t old.scopes once)))
          ∙ ap (λ ys. first_of (after h ys)) (same t)
          ∙ ap first_of (filter_after k h (scope_of t new.scopes) (distinct_scope t new.scopes once_too))
          ∙ sym (ap of (under_after h t new.scopes (sym label_alike ∙ e)))

-- what stands alike among fewer handles does among those that are left of them
less_within : (j k : ℕ → Bool) (h g : ℕ) → ((q : ℕ) → j q ≡ true → k q ≡ true) → not (less k h g) ≡ true → not (less j h g) ≡ true
less_within j k h g within out = at (h == g) refl
  where
    at : (b : Bool) → (h == g) ≡ b → not (less j h g) ≡ true
    at true e = less_own j h g e
    at false e = less_other j h g e ∙ not_false (j g) (contrary (j g) (k g) (within g) (is_false (k g) (sym (less_other k h g e) ∙ out)))

pub stands_still : (j k : ℕ → Bool) (h : ℕ) (old new : State) → ((q : ℕ) → j q ≡ true → k q ≡ true) → StandsAlike j old new h → StandsAlike k old new h
stands_still j k h old new within s = record {
  held = s.held;
  scopes = λ t.
      sym (filter_skip (λ g. not (less k h g)) (λ g. not (less j h g)) (λ g. less_within j k h g within) (scope_of t old.scopes))
      ∙ ap (filter (λ g. not (less k h g))) (s.scopes t)
      ∙ filter_skip (λ g. not (less k h g)) (λ g. not (less j h g)) (λ g. less_within j k h g within) (scope_of t new.scopes);
}

-- ---- in two states
-- where a handle has the same label in both, and the same first one under it, scopes are alike with it
module _ (k : ℕ → Bool) (h : ℕ) (old new : State) (once : AreOnce old.scopes) (once_too : AreOnce new.scopes) (alike : AreScopesAlike k old new) where
  abbrev pub out : ℕ → Bool
  out g = not (k g)

  pub with_handle : label_in h old.scopes ≡ label_in h new.scopes → first_of (filter out (under h old.scopes)) ≡ first_of (filter out (under h new.scopes)) → AreScopesAlike (less k h) old new
  with_handle labels unders u = by (k h) refl
    where
      none_in : label_in h old.scopes ≡ None → filter (λ g. not (less k h g)) (scope_of u old.scopes) ≡ filter (λ g. not (less k h g)) (scope_of u new.scopes)
      none_in is =
          filter_same k h (scope_of u old.scopes) (in_none h u old.scopes is) ∙ alike u
          ∙ sym (filter_same k h (scope_of u new.scopes) (in_none h u new.scopes (sym labels ∙ is)))

      one_in : k h ≡ true → (t : ℕ) (b : Bool) → (t == u) ≡ b → label_in h old.scopes ≡ Some t → filter (λ g. not (less k h g)) (scope_of u old.scopes) ≡ filter (λ g. not (less k h g)) (scope_of u new.scopes)
      one_in in_set t true e is =
          let here : label_in h old.scopes ≡ Some u = is ∙ ap (λ n. Some n) (same_number t u e) in
          let there : label_in h new.scopes ≡ Some u = sym labels ∙ here in
          filter_put k h in_set (scope_of u old.scopes) (distinct_scope u old.scopes once) (in_own h u old.scopes here)
          ∙ (λ i. put_above (first_of (filter out (sym (under_after h u old.scopes here) i))) h (alike u i))
          ∙ ap (λ o. put_above o h (filter out (scope_of u new.scopes))) (unders ∙ ap (λ ys. first_of (filter out ys)) (under_after h u new.scopes there))
          ∙ sym (filter_put k h in_set (scope_of u new.scopes) (distinct_scope u new.scopes once_too) (in_own h u new.scopes there))
      one_in in_set t false e is =
          filter_same k h (scope_of u old.scopes) (in_no_other h t u old.scopes once is e) ∙ alike u
          ∙ sym (filter_same k h (scope_of u new.scopes) (in_no_other h t u new.scopes once_too (sym labels ∙ is) e))

      of : k h ≡ true → (o : Option ℕ) → label_in h old.scopes ≡ o → filter (λ g. not (less k h g)) (scope_of u old.scopes) ≡ filter (λ g. not (less k h g)) (scope_of u new.scopes)
      of in_set None is = none_in is
      of in_set (Some t) is = one_in in_set t (t == u) refl is

      by : (b : Bool) → k h ≡ b → filter (λ g. not (less k h g)) (scope_of u old.scopes) ≡ filter (λ g. not (less k h g)) (scope_of u new.scopes)
      by true e = of e (label_in h old.scopes) refl
      by false e = filter_was k h e (scope_of u old.scopes) ∙ alike u ∙ sym (filter_was k h e (scope_of u new.scopes))

-- ---- a walk down a scope
-- this handle, if there is one, and all that are under it
abbrev pub from_here : List Scoped → Option ℕ → List ℕ
from_here ss None = []
from_here ss (Some h) = h ∷ under h ss

-- from the handle made just before on, it is what is under a handle
pub from_earlier : (q : ℕ) (ss : List Scoped) (o : Option ℕ) → AreOnce ss → o ≡ earlier_in q ss → from_here ss o ≡ under q ss
from_earlier q ss o once is = ap (from_here ss) (is ∙ earlier_under q ss) ∙ at (under q ss) refl
  where
    at : (ys : List ℕ) → under q ss ≡ ys → from_here ss (first_of (under q ss)) ≡ under q ss
    at [] e = ap (λ zs. from_here ss (first_of zs)) e ∙ sym e
    at (g ∷ ys) e = ap (λ zs. from_here ss (first_of zs)) e ∙ ap (λ zs. g ∷ zs) (under_next q g ys ss once e) ∙ sym e
