-- How the objects that one retains are found: each place that is passed keeps what is missing exact.
use Rattle.std.proofs.Common.{◌≡◌, ℕ, zero, suc, ◌+◌, ◌-◌, ◌^◌, ◌<◌, ◌≤◌, ◌≢◌, List, [], ◌∷◌, ◌++◌, length, replicate, refl, sym, ap, ◌∙◌, subst, arith, add-one, Bool, true, false, inl, inr, get_or-set_same, get_or-set_other, length-append}
use Rattle.std.specs.Prelude.{Option, Some, None, ◌⊎◌, ◌==◌, ◌||◌, ◌&&◌, not, nat_lt, slice_set, slice_index, if◌then◌else◌}
use Rattle.std.proofs.lemmas.Bool.Decides.{nat_tests}
use Rattle.std.proofs.lemmas.List.{length-set, get_or_append_left, get_or_push}
use Rattle.ownership_model.specs.Reach.{has}
use Rattle.ownership_model.proofs.Searching.{has-append, either, or_left, or_right}
use Rattle.retention.specs.declared.graph.Graph.{Graph}
use Rattle.retention.specs.Graph.{size, places, holds, IsFieldAt, start_at}
use Rattle.retention.specs.Retaining.{is_target, count_below, arcs, IsHeldBy, AreApart, AreRetained}
use Rattle.retention.specs.RetainingSteps.{IsReady, IsPlaceCounted, times, positives, IsPass, IsPlacePassed, IsPassing, IsRetaining}
use Rattle.retention.proofs.DatingLemmas.{same_or_not, has_last, has_front, in_front}

-- ---- counting

pub count_more : (f : ℕ → Bool) (n : ℕ) → count_below f (n + 1) ≡ (if f n then 1 else 0) + count_below f n
count_more f n = rw add-one refl

one_at_most : (b : Bool) → (if b then 1 else 0) ≤ 1
one_at_most true = omega arith
one_at_most false = omega arith

pub count_within : (f : ℕ → Bool) (n : ℕ) → count_below f n ≤ n
count_within f zero = omega arith
count_within f (suc n) = omega (arith, count_within f n, one_at_most (f n))

-- two tests that agree below n
count_same : (f h : ℕ → Bool) (n : ℕ) → ((p : ℕ) → p < n → f p ≡ h p) → count_below f n ≡ count_below h n
count_same f h zero same = refl
count_same f h (suc n) same =
    let here : f n ≡ h n = same n (omega arith) in
    let rest : count_below f n ≡ count_below h n = count_same f h n (λ p less. same p (omega (arith, less))) in
    ap (λ b. (if b then 1 else 0) + count_below f n) here ∙ ap (λ k. (if h n then 1 else 0) + k) rest

-- a test that fails at one number more
count_less : (f h : ℕ → Bool) (n at : ℕ) → at < n → f at ≡ true → h at ≡ false → ((p : ℕ) → p ≢ at → f p ≡ h p) → count_below f n ≡ 1 + count_below h n
count_less f h zero at less passing failing others = absurd (omega (arith, less))
count_less f h (suc n) at less passing failing others = by_place (same_or_not n at) (λ below. count_less f h n at below passing failing others)
  where
    by_place : (n ≡ at) ⊎ (n ≢ at) → (at < n → count_below f n ≡ 1 + count_below h n) → count_below f (suc n) ≡ 1 + count_below h (suc n)
    by_place (inl same) rest =
        let now : f n ≡ true = ap f same ∙ passing in
        let then' : h n ≡ false = ap h same ∙ failing in
        let front : count_below f n ≡ count_below h n = count_same f h n (λ p small. others p (λ e. omega (arith, e, same, small))) in
        ap (λ b. (if b then 1 else 0) + count_below f n) now ∙ ap (λ k. 1 + k) (front ∙ sym (ap (λ b. (if b then 1 else 0) + count_below h n) then' ∙ omega arith))
    by_place (inr other) rest =
        let here : f n ≡ h n = others n other in
        let front : count_below f n ≡ 1 + count_below h n = rest (omega (arith, less, other)) in
        ap (λ b. (if b then 1 else 0) + count_below f n) here ∙ omega (arith, front)

-- some number passes
count_some : (f : ℕ → Bool) (n at : ℕ) → at < n → f at ≡ true → 0 < count_below f n
count_some f zero at less passing = absurd (omega (arith, less))
count_some f (suc n) at less passing = by_place (same_or_not n at) (λ below. count_some f n at below passing)
  where
    by_place : (n ≡ at) ⊎ (n ≢ at) → (at < n → 0 < count_below f n) → 0 < count_below f (suc n)
    by_place (inl same) rest = let now : f n ≡ true = ap f same ∙ passing in subst (λ b. 0 < (if b then 1 else 0) + count_below f n) (sym now) (omega arith)
    by_place (inr other) rest = omega (arith, rest (omega (arith, less, other)))

-- none does
count_none : (f : ℕ → Bool) (n : ℕ) → count_below f n ≡ 0 → (p : ℕ) → p < n → f p ≡ false
count_none f n none p less = by_test (f p) refl
  where
    by_test : (b : Bool) → f p ≡ b → b ≡ false
    by_test true passing = absurd (omega (arith, none, count_some f n p less passing))
    by_test false failing = refl

none_counts : (f : ℕ → Bool) (n : ℕ) → ((p : ℕ) → p < n → f p ≡ false) → count_below f n ≡ 0
none_counts f zero none = refl
none_counts f (suc n) none =
    let here : f n ≡ false = none n (omega arith) in
    ap (λ b. (if b then 1 else 0) + count_below f n) here ∙ omega (arith, none_counts f n (λ p less. none p (omega (arith, less))))

-- ---- lists of numbers

index_past : (xs : List ℕ) (i : ℕ) → length xs ≤ i → slice_index xs i ≡ 0
index_past [] i past = refl
index_past (x ∷ xs) zero past = absurd (omega (arith, past))
index_past (x ∷ xs) (suc i) past = index_past xs i (omega (arith, past))

pub set_same : (xs : List ℕ) (t v : ℕ) → t < length xs → slice_index (slice_set xs t v) t ≡ v
set_same xs t v within = get_or-set_same xs t v 0 within

pub set_other : (xs : List ℕ) (t v k : ℕ) → k ≢ t → slice_index (slice_set xs t v) k ≡ slice_index xs k
set_other xs t v k apart = get_or-set_other xs t k v 0 apart

pub times_push : (t u : ℕ) (xs : List ℕ) → times t (xs ++ u ∷ []) ≡ times t xs + (if u == t then 1 else 0)
times_push t u [] = omega arith
times_push t u (x ∷ xs) = omega (arith, times_push t u xs)

self : (t : ℕ) → (t == t) ≡ true
self t = grind (arith, nat_tests)

apart_test : (t u : ℕ) → t ≢ u → (u == t) ≡ false
apart_test t u apart = elim (u == t) as (λ b. (u == t) ≡ b → (u == t) ≡ false) [
  | true ↦ λ e. absurd (apart (grind (arith, nat_tests, e)))
  | false ↦ λ e. e
] refl

same_test : (t u : ℕ) → (u == t) ≡ true → u ≡ t
same_test t u e = grind (arith, nat_tests, e)

pub times_same : (t : ℕ) (xs : List ℕ) → times t (xs ++ t ∷ []) ≡ times t xs + 1
times_same t xs = times_push t t xs ∙ ap (λ b. times t xs + (if b then 1 else 0)) (self t)

pub times_other : (t u : ℕ) (xs : List ℕ) → t ≢ u → times t (xs ++ u ∷ []) ≡ times t xs
times_other t u xs apart = times_push t u xs ∙ ap (λ b. times t xs + (if b then 1 else 0)) (apart_test t u apart) ∙ omega arith

pub positives_less : (xs : List ℕ) (t v : ℕ) → t < length xs → 0 < slice_index xs t → positives (slice_set xs t v) + (if v == 0 then 1 else 0) ≡ positives xs
positives_less [] t v within more = absurd (omega (arith, within))
positives_less (x ∷ xs) zero v within more = grind (arith, nat_tests, more)
positives_less (x ∷ xs) (suc t) v within more = omega (arith, positives_less xs t v (omega (arith, within)) more)

-- a number that stands in the list stands somewhere
pub where_in : (j : ℕ) (xs : List ℕ) → has j xs ≡ true → (i : ℕ) × (i < length xs) × (slice_index xs i ≡ j)
where_in j [] h = absurd cc
where_in j (x ∷ xs) h =
    either ((i : ℕ) × (i < length (x ∷ xs)) × (slice_index (x ∷ xs) i ≡ j)) (x == j) (has j xs) h
    (λ e. (0, omega arith, same_test j x e)) (λ e. let it = where_in j xs e in (suc it.0, omega (arith, it.1), it.2))

pub index_in : (xs : List ℕ) (i : ℕ) → i < length xs → has (slice_index xs i) xs ≡ true
index_in [] i less = absurd (omega (arith, less))
index_in (x ∷ xs) zero less = or_left (x == x) (has x xs) (self x)
index_in (x ∷ xs) (suc i) less = or_right (x == slice_index xs i) (has (slice_index xs i) xs) (index_in xs i (omega (arith, less)))

-- of numbers that are apart, one stands at one place
pub one_index : (xs : List ℕ) (i k : ℕ) → AreApart xs → i < length xs → k < length xs → slice_index xs i ≡ slice_index xs k → i ≡ k
one_index [] i k apart here there same = absurd (omega (arith, here))
one_index (x ∷ xs) zero zero apart here there same = refl
one_index (x ∷ xs) zero (suc k) apart here there same = absurd (twice x xs k apart.0 (omega (arith, there)) same)
  where
    twice : (y : ℕ) (ys : List ℕ) (n : ℕ) → has y ys ≡ false → n < length ys → y ≡ slice_index ys n → ⊥
    twice y ys n none less is = let it : has y ys ≡ true = subst (λ z. has z ys ≡ true) (sym is) (index_in ys n less) in cc
one_index (x ∷ xs) (suc i) zero apart here there same = absurd (twice x xs i apart.0 (omega (arith, here)) (sym same))
  where
    twice : (y : ℕ) (ys : List ℕ) (n : ℕ) → has y ys ≡ false → n < length ys → y ≡ slice_index ys n → ⊥
    twice y ys n none less is = let it : has y ys ≡ true = subst (λ z. has z ys ≡ true) (sym is) (index_in ys n less) in cc
one_index (x ∷ xs) (suc i) (suc k) apart here there same = ap suc (one_index xs i k apart.1 (omega (arith, here)) (omega (arith, there)) same)

-- one number more
not_in_one : (x t : ℕ) → x ≢ t → has x (t ∷ []) ≡ false
not_in_one x t apart = grind (arith, nat_tests, apart)

pub apart_push : (xs : List ℕ) (t : ℕ) → AreApart xs → has t xs ≡ false → AreApart (xs ++ t ∷ [])
apart_push [] t apart new = (refl, tt)
apart_push (x ∷ xs) t apart new = (
  has-append x xs (t ∷ []) ∙ neither (has x xs) (has x (t ∷ [])) apart.0 (not_in_one x t (λ same. never (x == t) (grind (arith, nat_tests, same)) (first_false (x == t) (has t xs) new))),
  apart_push xs t apart.1 (second_false (x == t) (has t xs) new),
)
  where
    neither : (a b : Bool) → a ≡ false → b ≡ false → (a || b) ≡ false
    neither true b p q = absurd cc
    neither false b p q = q

    first_false : (a b : Bool) → (a || b) ≡ false → a ≡ false
    first_false true b p = absurd cc
    first_false false b p = refl

    second_false : (a b : Bool) → (a || b) ≡ false → b ≡ false
    second_false true b p = absurd cc
    second_false false b p = p

    never : (a : Bool) → a ≡ true → a ≡ false → ⊥
    never a p q = cc

pub not_in : (t : ℕ) (xs : List ℕ) → (has t xs ≡ true → ⊥) → has t xs ≡ false
not_in t xs never = by_test (has t xs) refl
  where
    by_test : (b : Bool) → has t xs ≡ b → b ≡ false
    by_test true e = absurd (never e)
    by_test false e = refl

-- ---- tests on places

target_is : (o : Option ℕ) (t : ℕ) → is_target o t ≡ true → o ≡ Some t
target_is None t h = absurd cc
target_is (Some k) t h = ap Some (same_test t k h)

is_target_of : (o : Option ℕ) (t : ℕ) → o ≡ Some t → is_target o t ≡ true
is_target_of o t e = ap (λ x. is_target x t) e ∙ self t

and_true : (a b : Bool) → a ≡ true → b ≡ false → (a && not b) ≡ true
and_true true true p q = absurd cc
and_true true false p q = refl
and_true false b p q = absurd cc

and_false : (a b : Bool) → (a && not b) ≡ false → a ≡ true → b ≡ true
and_false true true h p = refl
and_false true false h p = absurd cc
and_false false b h p = absurd cc

not_and : (a b : Bool) → (a ≡ true → b ≡ true) → (a && not b) ≡ false
not_and true true f = refl
not_and true false f = let e : false ≡ true = f refl in absurd cc
not_and false b f = refl

-- the number of places is the index of none below
pub arcs_some : (g : Graph) (p t : ℕ) → p < places g → holds g p ≡ Some t → 0 < arcs g t
arcs_some g p t within held = count_some (λ q. is_target (holds g q) t) (places g) p within (is_target_of (holds g p) t held)

pub arcs_within : (g : Graph) (t : ℕ) → arcs g t ≤ places g
arcs_within g t = count_within (λ p. is_target (holds g p) t) (places g)

-- ---- a fresh count

pub none_yet : (n t : ℕ) → slice_index (replicate n 0) t ≡ 0
none_yet zero t = refl
none_yet (suc n) zero = refl
none_yet (suc n) (suc t) = none_yet n t

-- what the first places hold is counted
pub record AreCounted (g : Graph) (n : ℕ) (missing : List ℕ) : Type 0 where
  pub long : length missing ≡ size g
  pub each : (t : ℕ) → slice_index missing t ≡ count_below (λ p. is_target (holds g p) t) n

pub counted_start : (g : Graph) (missing : List ℕ) → missing ≡ replicate (size g) 0 → length missing ≡ size g → AreCounted g 0 missing
counted_start g missing is long = record { long = long; each = λ t. ap (λ xs. slice_index xs t) is ∙ none_yet (size g) t }

pub counted_skip : (g : Graph) (n : ℕ) (missing : List ℕ) → AreCounted g n missing → holds g n ≡ None → AreCounted g (n + 1) missing
counted_skip g n missing c none = record {
  long = c.long;
  each = λ t. c.each t ∙ sym (count_more (λ p. is_target (holds g p) t) n ∙ ap (λ o. (if is_target o t then 1 else 0) + count_below (λ p. is_target (holds g p) t) n) none ∙ omega arith);
}

pub counted_more : (g : Graph) (n t : ℕ) (missing : List ℕ) → AreCounted g n missing → holds g n ≡ Some t → t < size g → AreCounted g (n + 1) (slice_set missing t (slice_index missing t + 1))
counted_more g n t missing c held within = record { long = length-set missing t (slice_index missing t + 1) ∙ c.long; each = λ u. each u (same_or_not u t) }
  where
    more : (u : ℕ) → count_below (λ p. is_target (holds g p) u) (n + 1) ≡ (if t == u then 1 else 0) + count_below (λ p. is_target (holds g p) u) n
    more u = count_more (λ p. is_target (holds g p) u) n ∙ ap (λ o. (if is_target o u then 1 else 0) + count_below (λ p. is_target (holds g p) u) n) held

    each : (u : ℕ) → (u ≡ t) ⊎ (u ≢ t) → slice_index (slice_set missing t (slice_index missing t + 1)) u ≡ count_below (λ p. is_target (holds g p) u) (n + 1)
    each u (inl same) =
        ap (slice_index (slice_set missing t (slice_index missing t + 1))) same ∙ set_same missing t (slice_index missing t + 1) (omega (arith, within, c.long)) ∙ ap (λ k. k + 1) (c.each t)
        ∙ omega (arith, sym (more t), ap (λ b. (if b then 1 else 0) + count_below (λ p. is_target (holds g p) t) n) (self t)) ∙ ap (λ k. count_below (λ p. is_target (holds g p) k) (n + 1)) (sym same)
    each u (inr other) =
        set_other missing t (slice_index missing t + 1) u other ∙ c.each u
        ∙ sym (more u ∙ ap (λ b. (if b then 1 else 0) + count_below (λ p. is_target (holds g p) u) n) (apart_test u t other) ∙ omega arith)

pub counted_place : (g : Graph) (n : ℕ) (old new : List ℕ) → AreCounted g n old → IsPlaceCounted g n old new → AreCounted g (n + 1) new
counted_place g n old new c (inl it) = subst (λ xs. AreCounted g (n + 1) xs) (sym it.1) (counted_skip g n old c it.0)
counted_place g n old new c (inr it) = subst (λ xs. AreCounted g (n + 1) xs) (sym it.3) (counted_more g n it.0 old c it.1 it.2)

pub counted_few : (g : Graph) (n : ℕ) (missing : List ℕ) → AreCounted g n missing → (t : ℕ) → slice_index missing t ≤ n
counted_few g n missing c t = omega (arith, c.each t, count_within (λ p. is_target (holds g p) t) n)

pub counted_end : (g : Graph) (missing passed : List ℕ) → passed ≡ [] → places g < 2 ^ 64 → AreCounted g (places g) missing → IsReady g missing passed
counted_end g missing passed none few c = record { long = c.long; each = λ t within. c.each t; none = none; few = few }

-- ---- passing places
module _ (g : Graph) (first : ℕ) where
  -- a place is a field of one object alone
  one_owner : (i j p : ℕ) → i < size g → j < size g → IsFieldAt g i p → IsFieldAt g j p → i ≡ j
  one_owner i j p here there f h = sym (g.laid.are_sources.same i p here f.0 f.1) ∙ g.laid.are_sources.same j p there h.0 h.1

  pub start : (missing members passed : List ℕ) → IsReady g missing passed → first < size g → members ≡ first ∷ [] → IsRetaining g first 0 missing members passed
  start missing members passed ready there only = subst (λ ms. IsRetaining g first 0 missing ms passed) (sym only) (record {
    few = ready.few;
    long = ready.long;
    itself = has_last first [];
    within = λ i h. subst (λ x. x < size g) (sym (one i h)) there;
    distinct = (refl, tt);
    noted = λ t more. absurd (omega (arith, more, ap (times t) ready.none));
    sums = λ t within. omega (arith, ready.each t within, ap (times t) ready.none);
    gone = λ j. false;
    gone_front = λ i less. refl_false i less;
    gone_member = λ j h. absurd cc;
    done = λ p. false;
    left = λ t within apart. ready.each t within ∙ count_same (λ p. is_target (holds g p) t) (λ p. is_target (holds g p) t && not false) (places g) (λ p less. same_and (is_target (holds g p) t));
    own = λ p h. absurd cc;
    passes = λ j p t processed field held apart. absurd (unprocessed j p processed);
    all = λ t within apart zero more. absurd (omega (arith, ready.each t within, zero, more));
    zero = λ t h apart. absurd (apart (one t h));
    least = λ k itself closed i h. subst (λ x. k x ≡ true) (sym (one i h)) itself;
  })
    where
      one : (i : ℕ) → has i (first ∷ []) ≡ true → i ≡ first
      one i h = grind (arith, nat_tests, h)

      refl_false : (i : ℕ) → i < 1 → false ≡ nat_lt i 0
      refl_false i less = grind (arith, nat_tests, less)

      same_and : (a : Bool) → a ≡ (a && not false)
      same_and true = refl
      same_and false = refl

      unprocessed : (j p : ℕ) → (false ≡ true) ⊎ ((j ≡ first) × (p < 0)) → ⊥
      unprocessed j p (inl h) = cc
      unprocessed j p (inr h) = omega (arith, h.1)

  -- the fields of the member begin
  pub begins : (at place : ℕ) (missing members passed : List ℕ) → at < length members → place ≡ start_at g (slice_index members at) → IsRetaining g first at missing members passed → IsPassing g first at place missing members passed
  begins at place missing members passed there is s = record {
    few = s.few;
    long = s.long;
    itself = s.itself;
    within = s.within;
    distinct = s.distinct;
    noted = s.noted;
    sums = s.sums;
    gone = s.gone;
    gone_front = s.gone_front;
    gone_member = s.gone_member;
    done = s.done;
    left = s.left;
    own = λ p h. let it = s.own p h in (it.0, wider it.0 p it.1, it.2, it.3);
    passes = λ j p t processed field held apart. s.passes j p t (narrower j p field processed) field held apart;
    all = s.all;
    zero = s.zero;
    least = s.least;
  }
    where
      wider : (j p : ℕ) → (s.gone j ≡ true) ⊎ ((j ≡ slice_index members at) × (p < 0)) → (s.gone j ≡ true) ⊎ ((j ≡ slice_index members at) × (p < place))
      wider j p (inl h) = inl h
      wider j p (inr h) = absurd (omega (arith, h.1))

      narrower : (j p : ℕ) → IsFieldAt g j p → (s.gone j ≡ true) ⊎ ((j ≡ slice_index members at) × (p < place)) → (s.gone j ≡ true) ⊎ ((j ≡ slice_index members at) × (p < 0))
      narrower j p field (inl h) = inl h
      narrower j p field (inr h) = absurd (omega (arith, h.1, field.0, is, ap (start_at g) h.0))

  module _ (at place : ℕ) (missing members passed : List ℕ) (there : at < length members) (s : IsPassing g first at place missing members passed) where
    abbrev member : ℕ
    member = slice_index members at

    abbrev IsProcessed : ℕ → ℕ → ℕ → Type 0
    IsProcessed to j p = (s.gone j ≡ true) ⊎ ((j ≡ slice_index members at) × (p < to))

    member_in : has (slice_index members at) members ≡ true
    member_in = index_in members at there

    member_left : s.gone (slice_index members at) ≡ false
    member_left = s.gone_front at there ∙ not_below at
      where
        not_below : (n : ℕ) → nat_lt n n ≡ false
        not_below n = grind (arith, nat_tests)

    wider : (j p : ℕ) → IsProcessed place j p → IsProcessed (place + 1) j p
    wider j p (inl h) = inl h
    wider j p (inr h) = inr (h.0, omega (arith, h.1))

    -- a place that was done is not the one that is passed
    module _ (field : IsFieldAt g (slice_index members at) place) where
      not_processed : (j : ℕ) → has j members ≡ true → IsFieldAt g j place → IsProcessed place j place → ⊥
      not_processed j h own (inl gone) =
          let same : j ≡ slice_index members at = one_owner j (slice_index members at) place (s.within j h) (s.within (slice_index members at) member_in) own field in
          let left : s.gone j ≡ false = ap s.gone same ∙ member_left in
          absurd cc
      not_processed j h own (inr it) = omega (arith, it.1)

      fresh : s.done place ≡ false
      fresh = by_test (s.done place) refl
        where
          by_test : (b : Bool) → s.done place ≡ b → b ≡ false
          by_test true e = let it = s.own place e in absurd (not_processed it.0 it.3 it.2 it.1)
          by_test false e = refl

    -- the place is no Arc to another than the first
    pub skips : ((t : ℕ) → holds g place ≡ Some t → t ≢ first → ⊥) → IsPassing g first at (place + 1) missing members passed
    skips none = record {
      few = s.few;
      long = s.long;
      itself = s.itself;
      within = s.within;
      distinct = s.distinct;
      noted = s.noted;
      sums = s.sums;
      gone = s.gone;
      gone_front = s.gone_front;
      gone_member = s.gone_member;
      done = s.done;
      left = s.left;
      own = λ p h. let it = s.own p h in (it.0, wider it.0 p it.1, it.2, it.3);
      passes = λ j p t processed field held apart. at_place j p t processed field held apart (same_or_not p place);
      all = s.all;
      zero = s.zero;
      least = s.least;
    }
      where
        narrower : (j p : ℕ) → p ≢ place → IsProcessed (place + 1) j p → IsProcessed place j p
        narrower j p other (inl h) = inl h
        narrower j p other (inr h) = inr (h.0, omega (arith, h.1, other))

        at_place : (j p t : ℕ) → IsProcessed (place + 1) j p → IsFieldAt g j p → holds g p ≡ Some t → t ≢ first → (p ≡ place) ⊎ (p ≢ place) → s.done p ≡ true
        at_place j p t processed field held apart (inl same) = absurd (none t (subst (λ x. holds g x ≡ Some t) same held) apart)
        at_place j p t processed field held apart (inr other) = s.passes j p t (narrower j p other processed) field held apart

    -- the place holds t
    module _ (t : ℕ) (field : IsFieldAt g (slice_index members at) place) (held : holds g place ≡ Some t) (within : place < places g) (t_there : t < size g) where
      pub still_missing : t ≢ first → 0 < slice_index missing t
      still_missing apart =
          let some : 0 < count_below (λ p. is_target (holds g p) t && not (s.done p)) (places g) =
          count_some (λ p. is_target (holds g p) t && not (s.done p)) (places g) place within (and_true (is_target (holds g place) t) (s.done place) (is_target_of (holds g place) t held) (fresh field)) in
          omega (arith, some, s.left t t_there apart)

      module _ (apart : t ≢ first) where
        abbrev less : List ℕ
        less = slice_set missing t (slice_index missing t - 1)

        abbrev done_now : ℕ → Bool
        done_now p = s.done p || p == place

        t_in : t < length missing
        t_in = omega (arith, t_there, s.long)

        long_now : length less ≡ size g
        long_now = length-set missing t (slice_index missing t - 1) ∙ s.long

        sums_now : (u : ℕ) → u < size g → (u ≡ t) ⊎ (u ≢ t) → slice_index less u + times u (passed ++ t ∷ []) ≡ arcs g u
        sums_now u u_there (inl same) =
            subst (λ x. slice_index less x + times x (passed ++ t ∷ []) ≡ arcs g x) (sym same)
            (omega (arith, set_same missing t (slice_index missing t - 1) t_in, times_same t passed, s.sums t t_there, still_missing apart))
        sums_now u u_there (inr other) = omega (arith, set_other missing t (slice_index missing t - 1) u other, times_other u t passed other, s.sums u u_there)

        noted_now : (u : ℕ) → (u ≡ t) ⊎ (u ≢ t) → 0 < times u (passed ++ t ∷ []) → u < size g
        noted_now u (inl same) more = subst (λ x. x < size g) (sym same) t_there
        noted_now u (inr other) more = s.noted u (omega (arith, more, times_other u t passed other))

        other_done : (p : ℕ) → p ≢ place → done_now p ≡ s.done p
        other_done p other = ap (λ b. s.done p || b) (apart_test place p (λ e. other (sym e))) ∙ or_none (s.done p)
          where
            or_none : (b : Bool) → (b || false) ≡ b
            or_none true = refl
            or_none false = refl

        here_done : done_now place ≡ true
        here_done = or_right (s.done place) (place == place) (self place)

        left_now : (u : ℕ) → u < size g → u ≢ first → (u ≡ t) ⊎ (u ≢ t) → slice_index less u ≡ count_below (λ p. is_target (holds g p) u && not (done_now p)) (places g)
        left_now u u_there u_apart (inl same) =
            subst (λ x. slice_index less x ≡ count_below (λ p. is_target (holds g p) x && not (done_now p)) (places g)) (sym same)
            (omega (
              arith,
              set_same missing t (slice_index missing t - 1) t_in,
              s.left t t_there apart,
              count_less (λ p. is_target (holds g p) t && not (s.done p)) (λ p. is_target (holds g p) t && not (done_now p)) (places g) place within
                  (and_true (is_target (holds g place) t) (s.done place) (is_target_of (holds g place) t held) (fresh field))
                  (not_and (is_target (holds g place) t) (done_now place) (λ _. here_done))
                  (λ p other. ap (λ b. is_target (holds g p) t && not b) (sym (other_done p other))),
            ))
        left_now u u_there u_apart (inr other) =
            set_other missing t (slice_index missing t - 1) u other ∙ s.left u u_there u_apart
            ∙ count_same (λ p. is_target (holds g p) u && not (s.done p)) (λ p. is_target (holds g p) u && not (done_now p)) (places g) (λ p _. at_place p (same_or_not p place))
          where
            at_place : (p : ℕ) → (p ≡ place) ⊎ (p ≢ place) → (is_target (holds g p) u && not (s.done p)) ≡ (is_target (holds g p) u && not (done_now p))
            at_place p (inl same) =
                let none : is_target (holds g p) u ≡ false = ap (λ x. is_target (holds g x) u) same ∙ ap (λ o. is_target o u) held ∙ apart_test u t other in
                ap (λ b. b && not (s.done p)) none ∙ sym (ap (λ b. b && not (done_now p)) none)
            at_place p (inr place_other) = ap (λ b. is_target (holds g p) u && not b) (sym (other_done p place_other))

        own_now : (p : ℕ) → done_now p ≡ true → (j : ℕ) × IsProcessed (place + 1) j p × IsFieldAt g j p × (has j members ≡ true)
        own_now p h =
            either ((j : ℕ) × IsProcessed (place + 1) j p × IsFieldAt g j p × (has j members ≡ true)) (s.done p) (p == place) h
            (λ e. let it = s.own p e in (it.0, wider it.0 p it.1, it.2, it.3))
            (λ e.
            let same : p ≡ place = same_test place p e in
            (slice_index members at, inr (refl, omega (arith, same)), subst (λ x. IsFieldAt g (slice_index members at) x) (sym same) field, member_in))

        passes_now : (j p u : ℕ) → IsProcessed (place + 1) j p → IsFieldAt g j p → holds g p ≡ Some u → u ≢ first → (p ≡ place) ⊎ (p ≢ place) → done_now p ≡ true
        passes_now j p u processed own hold u_apart (inl same) = subst (λ x. done_now x ≡ true) (sym same) here_done
        passes_now j p u processed own hold u_apart (inr other) = or_left (s.done p) (p == place) (s.passes j p u (narrower processed) own hold u_apart)
          where
            narrower : IsProcessed (place + 1) j p → IsProcessed place j p
            narrower (inl h) = inl h
            narrower (inr h) = inr (h.0, omega (arith, h.1, other))

        zero_now : (u : ℕ) → has u members ≡ true → u ≢ first → slice_index less u ≡ 0
        zero_now u h u_apart = set_other missing t (slice_index missing t - 1) u (λ same. omega (arith, still_missing apart, s.zero u h u_apart, ap (slice_index missing) same)) ∙ s.zero u h u_apart

        all_now : (u : ℕ) → u < size g → u ≢ first → slice_index less u ≡ 0 → 0 < arcs g u → (u ≡ t) ⊎ (u ≢ t) → (u ≡ t) ⊎ (has u members ≡ true)
        all_now u u_there u_apart none more (inl same) = inl same
        all_now u u_there u_apart none more (inr other) = inr (s.all u u_there u_apart (sym (set_other missing t (slice_index missing t - 1) u other) ∙ none) more)

        -- it stays out
        stays_out : slice_index missing t - 1 ≢ 0 → IsPassing g first at (place + 1) less members (passed ++ t ∷ [])
        stays_out more = record {
          few = s.few;
          long = long_now;
          itself = s.itself;
          within = s.within;
          distinct = s.distinct;
          noted = λ u h. noted_now u (same_or_not u t) h;
          sums = λ u u_there. sums_now u u_there (same_or_not u t);
          gone = s.gone;
          gone_front = s.gone_front;
          gone_member = s.gone_member;
          done = done_now;
          left = λ u u_there u_apart. left_now u u_there u_apart (same_or_not u t);
          own = own_now;
          passes = λ j p u processed own hold u_apart. passes_now j p u processed own hold u_apart (same_or_not p place);
          all = λ u u_there u_apart none more_arcs. not_t u none (all_now u u_there u_apart none more_arcs (same_or_not u t));
          zero = zero_now;
          least = s.least;
        }
          where
            not_t : (u : ℕ) → slice_index less u ≡ 0 → (u ≡ t) ⊎ (has u members ≡ true) → has u members ≡ true
            not_t u none (inl same) = absurd (more (sym (set_same missing t (slice_index missing t - 1) t_in) ∙ ap (slice_index less) (sym same) ∙ none))
            not_t u none (inr h) = h

        -- it joins
        module _ (none_left : slice_index missing t - 1 ≡ 0) where
          new_t : has t members ≡ false
          new_t = not_in t members (λ h. omega (arith, still_missing apart, s.zero t h apart))

          gone_t : s.gone t ≡ false
          gone_t = by_test (s.gone t) refl
            where
              by_test : (b : Bool) → s.gone t ≡ b → b ≡ false
              by_test true e = let in_members : has t members ≡ true = s.gone_member t e in let out : has t members ≡ false = new_t in absurd cc
              by_test false e = refl

          index_now : (i : ℕ) → i < length (members ++ t ∷ []) → (i < length members) ⊎ (i ≡ length members)
          index_now i less_i = by_cmp (same_or_not i (length members))
            where
              by_cmp : (i ≡ length members) ⊎ (i ≢ length members) → (i < length members) ⊎ (i ≡ length members)
              by_cmp (inl same) = inr same
              by_cmp (inr other) = inl (omega (arith, less_i, other, length-append members (t ∷ [])))

          front_now : (i : ℕ) → (i < length members) ⊎ (i ≡ length members) → s.gone (slice_index (members ++ t ∷ []) i) ≡ nat_lt i at
          front_now i (inl less_i) = ap s.gone (get_or_append_left members (t ∷ []) 0 i less_i) ∙ s.gone_front i less_i
          front_now i (inr same) = ap s.gone (get_or_push members t 0 i (sym same)) ∙ gone_t ∙ sym (past i at (omega (arith, same, there)))
            where
              past : (a b : ℕ) → b ≤ a → nat_lt a b ≡ false
              past a b le = grind (arith, nat_tests, le)

          same_member : slice_index (members ++ t ∷ []) at ≡ slice_index members at
          same_member = get_or_append_left members (t ∷ []) 0 at there

          to_now : (to j p : ℕ) → IsProcessed to j p → (s.gone j ≡ true) ⊎ ((j ≡ slice_index (members ++ t ∷ []) at) × (p < to))
          to_now to j p (inl h) = inl h
          to_now to j p (inr h) = inr (h.0 ∙ sym same_member, h.1)

          from_now : (to j p : ℕ) → (s.gone j ≡ true) ⊎ ((j ≡ slice_index (members ++ t ∷ []) at) × (p < to)) → IsProcessed to j p
          from_now to j p (inl h) = inl h
          from_now to j p (inr h) = inr (h.0 ∙ same_member, h.1)

          -- each place that holds it is a field of a member
          all_done : (p : ℕ) → p < places g → holds g p ≡ Some t → done_now p ≡ true
          all_done p p_there hold =
              and_false (is_target (holds g p) t) (done_now p)
              (count_none (λ q. is_target (holds g q) t && not (done_now q)) (places g) (sym (left_now t t_there apart (inl refl)) ∙ set_same missing t (slice_index missing t - 1) t_in ∙ none_left) p p_there)
              (is_target_of (holds g p) t hold)

          joins : (k : ℕ → Bool) → k first ≡ true → ((u : ℕ) → u < size g → IsHeldBy g (λ j. k j ≡ true) u → k u ≡ true) → k t ≡ true
          joins k itself closed = closed t t_there (arcs_some g place t within held, λ p p_there hold. let it = own_now p (all_done p p_there hold) in (it.0, s.least k itself closed it.0 it.3, it.2))

          joined : IsPassing g first at (place + 1) less (members ++ t ∷ []) (passed ++ t ∷ [])
          joined = record {
            few = s.few;
            long = long_now;
            itself = has_front first t members s.itself;
            within = λ i h. in_front (i < size g) i t members h (s.within i) (λ same. subst (λ x. x < size g) (sym same) t_there);
            distinct = apart_push members t s.distinct new_t;
            noted = λ u h. noted_now u (same_or_not u t) h;
            sums = λ u u_there. sums_now u u_there (same_or_not u t);
            gone = s.gone;
            gone_front = λ i less_i. front_now i (index_now i less_i);
            gone_member = λ j h. has_front j t members (s.gone_member j h);
            done = done_now;
            left = λ u u_there u_apart. left_now u u_there u_apart (same_or_not u t);
            own = λ p h. let it = own_now p h in (it.0, to_now (place + 1) it.0 p it.1, it.2, has_front it.0 t members it.3);
            passes = λ j p u processed own hold u_apart. passes_now j p u (from_now (place + 1) j p processed) own hold u_apart (same_or_not p place);
            all = λ u u_there u_apart none more_arcs. in_now u (all_now u u_there u_apart none more_arcs (same_or_not u t));
            zero = λ u h u_apart. in_front (slice_index less u ≡ 0) u t members h (λ e. zero_now u e u_apart) (λ same. ap (slice_index less) same ∙ set_same missing t (slice_index missing t - 1) t_in ∙ none_left);
            least = λ k itself closed i h. in_front (k i ≡ true) i t members h (s.least k itself closed i) (λ same. subst (λ x. k x ≡ true) (sym same) (joins k itself closed));
          }
            where
              in_now : (u : ℕ) → (u ≡ t) ⊎ (has u members ≡ true) → has u (members ++ t ∷ []) ≡ true
              in_now u (inl same) = subst (λ x. has x (members ++ t ∷ []) ≡ true) (sym same) (has_last t members)
              in_now u (inr h) = has_front u t members h

      -- whatever is done with it
      pub passed_place : (missing' members' passed' : List ℕ) → IsPass first t missing members passed missing' members' passed' → IsPassing g first at (place + 1) missing' members' passed'
      passed_place missing' members' passed' (inl it) =
          at_lists missing' members' passed' missing members passed it.1 it.2 it.3 (skips (λ u hold other. other (one_target u hold ∙ it.0)))
        where
          one_target : (u : ℕ) → holds g place ≡ Some u → u ≡ t
          one_target u hold = let both : Some u ≡ Some t = sym hold ∙ held in cc

          at_lists : (a b c a' b' c' : List ℕ) → a ≡ a' → b ≡ b' → c ≡ c' → IsPassing g first at (place + 1) a' b' c' → IsPassing g first at (place + 1) a b c
          at_lists a b c a' b' c' p q r h =
              subst (λ x. IsPassing g first at (place + 1) x b c) (sym p) (subst (λ y. IsPassing g first at (place + 1) a' y c) (sym q) (subst (λ z. IsPassing g first at (place + 1) a' b' z) (sym r) h))
      passed_place missing' members' passed' (inr it) = by_left it.3
        where
          at_lists : (a b c a' b' c' : List ℕ) → a ≡ a' → b ≡ b' → c ≡ c' → IsPassing g first at (place + 1) a' b' c' → IsPassing g first at (place + 1) a b c
          at_lists a b c a' b' c' p q r h =
              subst (λ x. IsPassing g first at (place + 1) x b c) (sym p) (subst (λ y. IsPassing g first at (place + 1) a' y c) (sym q) (subst (λ z. IsPassing g first at (place + 1) a' b' z) (sym r) h))

          by_left : ((slice_index missing t - 1 ≡ 0) × (members' ≡ members ++ t ∷ [])) ⊎ ((slice_index missing t - 1 ≢ 0) × (members' ≡ members)) → IsPassing g first at (place + 1) missing' members' passed'
          by_left (inl last) =
              at_lists missing' members' passed' (slice_set missing t (slice_index missing t - 1)) (members ++ t ∷ []) (passed ++ t ∷ []) it.1 last.1 it.2 (joined it.0 last.0)
          by_left (inr more) =
              at_lists missing' members' passed' (slice_set missing t (slice_index missing t - 1)) members (passed ++ t ∷ []) it.1 more.1 it.2 (stays_out it.0 more.0)

    same_lists : (a b c a' b' c' : List ℕ) → a ≡ a' → b ≡ b' → c ≡ c' → IsPassing g first at (place + 1) a' b' c' → IsPassing g first at (place + 1) a b c
    same_lists a b c a' b' c' p q r h =
        subst (λ x. IsPassing g first at (place + 1) x b c) (sym p) (subst (λ y. IsPassing g first at (place + 1) a' y c) (sym q) (subst (λ z. IsPassing g first at (place + 1) a' b' z) (sym r) h))

    pub through_place : (missing' members' passed' : List ℕ) → IsFieldAt g (slice_index members at) place → place < places g → IsPlacePassed g first place missing members passed missing' members' passed'
        → IsPassing g first at (place + 1) missing' members' passed'
    through_place missing' members' passed' field within (inl it) = same_lists missing' members' passed' missing members passed it.1 it.2 it.3 (skips (λ t hold other. it.0 t hold))
    through_place missing' members' passed' field within (inr it) = passed_place it.0 field it.1 within it.2 missing' members' passed' it.3

    abbrev gone_now : ℕ → Bool
    gone_now j = s.gone j || j == slice_index members at

    -- the member is gone through
    pub ends : start_at g (slice_index members at + 1) ≤ place → IsRetaining g first (at + 1) missing members passed
    ends whole = record {
      few = s.few;
      long = s.long;
      itself = s.itself;
      within = s.within;
      distinct = s.distinct;
      noted = s.noted;
      sums = s.sums;
      gone = gone_now;
      gone_front = λ i less_i. front_now i less_i (same_or_not i at);
      gone_member = λ j h. either (has j members ≡ true) (s.gone j) (j == slice_index members at) h (s.gone_member j) (λ e. subst (λ x. has x members ≡ true) (sym (same_test (slice_index members at) j e)) member_in);
      done = s.done;
      left = s.left;
      own = λ p h. let it = s.own p h in (it.0, inl (now it.0 p it.1), it.2, it.3);
      passes = λ j p t processed field held apart. s.passes j p t (was j p field processed) field held apart;
      all = s.all;
      zero = s.zero;
      least = s.least;
    }
      where
        now : (j p : ℕ) → (s.gone j ≡ true) ⊎ ((j ≡ slice_index members at) × (p < place)) → gone_now j ≡ true
        now j p (inl h) = or_left (s.gone j) (j == slice_index members at) h
        now j p (inr h) = or_right (s.gone j) (j == slice_index members at) (ap (λ x. x == slice_index members at) h.0 ∙ self (slice_index members at))

        was : (j p : ℕ) → IsFieldAt g j p → (gone_now j ≡ true) ⊎ ((j ≡ slice_index members (at + 1)) × (p < 0)) → (s.gone j ≡ true) ⊎ ((j ≡ slice_index members at) × (p < place))
        was j p field (inl h) =
            either ((s.gone j ≡ true) ⊎ ((j ≡ slice_index members at) × (p < place))) (s.gone j) (j == slice_index members at) h (λ e. inl e)
            (λ e. let same : j ≡ slice_index members at = same_test (slice_index members at) j e in inr (same, omega (arith, field.1, whole, ap (λ x. start_at g (x + 1)) same)))
        was j p field (inr h) = absurd (omega (arith, h.1))

        front_now : (i : ℕ) → i < length members → (i ≡ at) ⊎ (i ≢ at) → gone_now (slice_index members i) ≡ nat_lt i (at + 1)
        front_now i less_i (inl same) =
            or_right (s.gone (slice_index members i)) (slice_index members i == slice_index members at) (ap (λ x. slice_index members x == slice_index members at) same ∙ self (slice_index members at)) ∙ sym (below i same)
          where
            below : (n : ℕ) → n ≡ at → nat_lt n (at + 1) ≡ true
            below n e = grind (arith, nat_tests, e)
        front_now i less_i (inr other) =
            ap (λ b. s.gone (slice_index members i) || b) (apart_test (slice_index members at) (slice_index members i) (λ e. other (one_index members i at s.distinct less_i there (sym e))))
            ∙ or_none (s.gone (slice_index members i)) ∙ s.gone_front i less_i ∙ same_side i other
          where
            or_none : (b : Bool) → (b || false) ≡ b
            or_none true = refl
            or_none false = refl

            same_side : (n : ℕ) → n ≢ at → nat_lt n at ≡ nat_lt n (at + 1)
            same_side n apart = grind (arith, nat_tests, apart)

  -- all members are gone through
  pub whole : (at : ℕ) (missing members passed : List ℕ) → length members ≤ at → IsRetaining g first at missing members passed → AreRetained g first members
  whole at missing members passed past s = record {
    within = s.within;
    distinct = s.distinct;
    itself = s.itself;
    closed = λ t there held. by_first t there held (same_or_not t first);
    least = s.least;
  }
    where
      all_gone : (j : ℕ) → has j members ≡ true → s.gone j ≡ true
      all_gone j h = let it = where_in j members h in ap s.gone (sym it.2) ∙ s.gone_front it.0 it.1 ∙ below it.0 (omega (arith, it.1, past))
        where
          below : (n : ℕ) → n < at → nat_lt n at ≡ true
          below n less_n = grind (arith, nat_tests, less_n)

      by_first : (t : ℕ) → t < size g → IsHeldBy g (λ j. has j members ≡ true) t → (t ≡ first) ⊎ (t ≢ first) → has t members ≡ true
      by_first t there held (inl same) = subst (λ x. has x members ≡ true) (sym same) s.itself
      by_first t there held (inr apart) =
          s.all t there apart
          (s.left t there apart ∙ none_counts (λ p. is_target (holds g p) t && not (s.done p)) (places g)
          (λ p p_there. not_and (is_target (holds g p) t) (s.done p) (λ e. let hold : holds g p ≡ Some t = target_is (holds g p) t e in let it = held.1 p p_there hold in s.passes it.0 p t (inl (all_gone it.0 it.1)) it.2 hold apart)))
          held.0

  -- and what was passed is taken back
  pub ready_again : (at : ℕ) (missing members passed missing' passed' : List ℕ) → IsRetaining g first at missing members passed → length missing' ≡ length missing
      → ((t : ℕ) → slice_index missing' t ≡ slice_index missing t + times t passed) → passed' ≡ [] → IsReady g missing' passed'
  ready_again at missing members passed missing' passed' s long each none = record {
    long = long ∙ s.long;
    each = λ t there. each t ∙ s.sums t there;
    none = none;
    few = s.few;
  }

  pub fits_back : (at : ℕ) (missing members passed : List ℕ) → IsRetaining g first at missing members passed → (t : ℕ) → slice_index missing t + times t passed < 2 ^ 64
  fits_back at missing members passed s t = by_size (less_or_not t (size g))
    where
      less_or_not : (a b : ℕ) → (a < b) ⊎ (b ≤ a)
      less_or_not a b = elim (nat_lt a b) as (λ x. nat_lt a b ≡ x → (a < b) ⊎ (b ≤ a)) [
        | true ↦ λ e. inl (grind (arith, nat_tests, e))
        | false ↦ λ e. inr (grind (arith, nat_tests, e))
      ] refl

      none_noted : size g ≤ t → (times t passed ≡ 0) ⊎ (0 < times t passed) → times t passed ≡ 0
      none_noted past (inl none) = none
      none_noted past (inr more) = absurd (omega (arith, s.noted t more, past))

      zero_or_more : (n : ℕ) → (n ≡ 0) ⊎ (0 < n)
      zero_or_more zero = inl refl
      zero_or_more (suc n) = inr (omega arith)

      by_size : (t < size g) ⊎ (size g ≤ t) → slice_index missing t + times t passed < 2 ^ 64
      by_size (inl there) = omega (arith, s.sums t there, arcs_within g t, s.few)
      by_size (inr past) = omega (arith, index_past missing t (omega (arith, s.long, past)), none_noted past (zero_or_more (times t passed)), s.few)

one_if_zero : (x : ℕ) → x ≡ 0 → 0 + (if x == 0 then 1 else 0) ≡ 1
one_if_zero x is = by_test (x == 0) (grind (arith, nat_tests, is))
  where
    by_test : (b : Bool) → b ≡ true → 0 + (if b then 1 else 0) ≡ 1
    by_test true e = omega arith
    by_test false e = absurd cc

-- the work that is left
pub pass_work : (first t : ℕ) (missing members passed missing' members' passed' : List ℕ) → t < length missing → (t ≢ first → 0 < slice_index missing t) → IsPass first t missing members passed missing' members' passed'
    → positives missing' + length members' ≤ positives missing + length members
pass_work first t missing members passed missing' members' passed' within more (inl it) = omega (arith, ap positives it.1, ap length it.2)
pass_work first t missing members passed missing' members' passed' within more (inr it) = by_left it.3
  where
    fewer : positives (slice_set missing t (slice_index missing t - 1)) + (if (slice_index missing t - 1) == 0 then 1 else 0) ≡ positives missing
    fewer = positives_less missing t (slice_index missing t - 1) within (more it.0)

    by_left : ((slice_index missing t - 1 ≡ 0) × (members' ≡ members ++ t ∷ [])) ⊎ ((slice_index missing t - 1 ≢ 0) × (members' ≡ members)) → positives missing' + length members' ≤ positives missing + length members
    by_left (inl last) =
        omega (arith, fewer, one_if_zero (slice_index missing t - 1) last.0, ap positives it.1, ap length last.1, length-append members (t ∷ []))
    by_left (inr some) = omega (arith, fewer, ap positives it.1, ap length some.1)

pub pass_longer : (first t : ℕ) (missing members passed missing' members' passed' : List ℕ) → IsPass first t missing members passed missing' members' passed' → length members ≤ length members'
pass_longer first t missing members passed missing' members' passed' (inl it) = omega (arith, ap length it.2)
pass_longer first t missing members passed missing' members' passed' (inr it) = by_left it.3
  where
    by_left : ((slice_index missing t - 1 ≡ 0) × (members' ≡ members ++ t ∷ [])) ⊎ ((slice_index missing t - 1 ≢ 0) × (members' ≡ members)) → length members ≤ length members'
    by_left (inl last) = omega (arith, ap length last.1, length-append members (t ∷ []))
    by_left (inr some) = omega (arith, ap length some.1)

pub place_work : (g : Graph) (first at : ℕ) (missing members passed missing' members' passed' : List ℕ) → length missing ≡ size g → ((t : ℕ) → holds g at ≡ Some t → t ≢ first → 0 < slice_index missing t)
    → IsPlacePassed g first at missing members passed missing' members' passed' → (positives missing' + length members' ≤ positives missing + length members) × (length members ≤ length members')
place_work g first at missing members passed missing' members' passed' long more (inl it) = (omega (arith, ap positives it.1, ap length it.2), omega (arith, ap length it.2))
place_work g first at missing members passed missing' members' passed' long more (inr it) = (
  pass_work first it.0 missing members passed missing' members' passed' (omega (arith, it.2, long)) (more it.0 it.1) it.3,
  pass_longer first it.0 missing members passed missing' members' passed' it.3,
)

-- the member stands where it stood
pub place_member : (g : Graph) (first at index : ℕ) (missing members passed missing' members' passed' : List ℕ) → index < length members → IsPlacePassed g first at missing members passed missing' members' passed'
    → slice_index members' index ≡ slice_index members index
place_member g first at index missing members passed missing' members' passed' there (inl it) = ap (λ xs. slice_index xs index) it.2
place_member g first at index missing members passed missing' members' passed' there (inr it) = by_pass it.3
  where
    by_pass : IsPass first it.0 missing members passed missing' members' passed' → slice_index members' index ≡ slice_index members index
    by_pass (inl same) = ap (λ xs. slice_index xs index) same.2
    by_pass (inr (apart, set, noted, inl joins)) = ap (λ xs. slice_index xs index) joins.1 ∙ get_or_append_left members (it.0 ∷ []) 0 index there
    by_pass (inr (apart, set, noted, inr stays)) = ap (λ xs. slice_index xs index) stays.1

-- one place is taken back
pub restore_more : (missing passed rest : List ℕ) (target v : ℕ) → passed ≡ rest ++ target ∷ [] → target < length missing → v ≡ slice_index missing target → (t : ℕ)
    → slice_index (slice_set missing target (v + 1)) t + times t rest ≡ slice_index missing t + times t passed
restore_more missing passed rest target v is within value t = by_place (same_or_not t target)
  where
    by_place : (t ≡ target) ⊎ (t ≢ target) → slice_index (slice_set missing target (v + 1)) t + times t rest ≡ slice_index missing t + times t passed
    by_place (inl same) =
        subst (λ x. slice_index (slice_set missing target (v + 1)) x + times x rest ≡ slice_index missing x + times x passed) (sym same)
        (omega (arith, set_same missing target (v + 1) within, ap (times target) is, times_same target rest, value))
    by_place (inr other) = omega (arith, set_other missing target (v + 1) t other, ap (times t) is, times_other t target rest other)

pub fewer_left : (passed rest : List ℕ) (target : ℕ) → passed ≡ rest ++ target ∷ [] → (t : ℕ) → times t rest ≤ times t passed
fewer_left passed rest target is t = omega (arith, ap (times t) is, times_push t target rest)

pub some_left : (passed rest : List ℕ) (target : ℕ) → passed ≡ rest ++ target ∷ [] → 0 < times target passed
some_left passed rest target is = omega (arith, ap (times target) is, times_same target rest)
