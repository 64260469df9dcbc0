-- How the lists of a graph come about.
use Rattle.std.proofs.Common.{◌≡◌, ℕ, zero, suc, ◌+◌, ◌-◌, ◌<◌, ◌≤◌, List, [], ◌∷◌, ◌++◌, length, get_or, set, replicate, refl, sym, ap, ◌∙◌, subst, arith, append-nil, Bool, true, false, cond, length-append, length-set, get_or-set_same, get_or-set_other}
use Rattle.std.specs.Prelude.{◌==◌, filter, Some, nat_lt, Result, Ok, Err, MatchResult}
use Rattle.std.specs.Ordering.{nat_cmp}
use Rattle.std.specs.List.Sorted.{IsBinarySearchResult}
use Rattle.std.proofs.lemmas.List.Sorted.{searched}
use Rattle.trace_types.specs.declared.slots.Slot.{Slot}
use Rattle.trace_types.specs.Slots.{named_by}
use Rattle.retention.specs.Targets.{IsTarget}
use Rattle.std.specs.List.{range_with_len}
use Rattle.std.proofs.lemmas.Bool.Decides.{nat_tests}
use Rattle.std.proofs.lemmas.List.{get_or_append_left, get_or_push}
use Rattle.std.proofs.lemmas.List.Elements.{filter-append}
use Rattle.retention.specs.Layout.{upto, IsWithin, AreStarts, AreSources, AreHolders, AreLaid, IsRising}
use Rattle.retention.proofs.WalkSteps.{number_same, same_number, by_number, apart_number}

-- the next number
range_more : (a n : ℕ) → range_with_len a (suc n) ≡ range_with_len a n ++ (a + n) ∷ []
range_more a zero = ap (λ x. x ∷ []) (let e : a ≡ a + 0 = omega arith in e)
range_more a (suc n) = ap (λ xs. a ∷ xs) (range_more (a + 1) n ∙ ap (λ x. range_with_len (a + 1) n ++ x ∷ []) (let e : a + 1 + n ≡ a + suc n = omega arith in e))

-- and the next place from one on
pub range_next : (a p : ℕ) → a ≤ p → range_with_len a (p + 1 - a) ≡ range_with_len a (p - a) ++ p ∷ []
range_next a p h =
    ap (range_with_len a) (let e : p + 1 - a ≡ suc (p - a) = omega (arith, h) in e) ∙ range_more a (p - a)
    ∙ ap (λ x. range_with_len a (p - a) ++ x ∷ []) (let e : a + (p - a) ≡ p = omega (arith, h) in e)

pub upto_more : (n : ℕ) → upto (n + 1) ≡ upto n ++ n ∷ []
upto_more n = ap upto (let e : n + 1 ≡ suc n = omega arith in e) ∙ range_more 0 n ∙ ap (λ x. upto n ++ x ∷ []) (let e : 0 + n ≡ n = omega arith in e)

pub filter_upto : (test : ℕ → Bool) (n : ℕ) → filter test (upto (n + 1)) ≡ filter test (upto n) ++ cond (test n) (n ∷ []) []
filter_upto test n = ap (filter test) (upto_more n) ∙ filter-append test (upto n) (n ∷ [])

-- starts that rise
pub start_rises : (starts : List ℕ) (n : ℕ) → ((i : ℕ) → i < n → get_or starts i 0 ≤ get_or starts (i + 1) 0) → (i d : ℕ) → i + d ≤ n → get_or starts i 0 ≤ get_or starts (i + d) 0
start_rises starts n rising i zero h = subst (λ x. get_or starts i 0 ≤ get_or starts x 0) (let e : i ≡ i + 0 = omega arith in e) (let e : get_or starts i 0 ≤ get_or starts i 0 = omega arith in e)
start_rises starts n rising i (suc d) h =
    let first : get_or starts i 0 ≤ get_or starts (i + d) 0 = start_rises starts n rising i d (omega (arith, h)) in
    let next : get_or starts (i + d) 0 ≤ get_or starts (i + d + 1) 0 = rising (i + d) (omega (arith, h)) in
    let all : get_or starts i 0 ≤ get_or starts (i + d + 1) 0 = omega (arith, first, next) in
    subst (λ x. get_or starts i 0 ≤ get_or starts x 0) (let e : i + d + 1 ≡ i + suc d = omega arith in e) all

-- Sources of the fields of the first objects, and then of one more.
pub record AreSourced (starts sources : List ℕ) (k : ℕ) : Type 0 where
  pub long : length sources ≡ get_or starts k 0
  pub same : (i p : ℕ) → i < k → get_or starts i 0 ≤ p → p < get_or starts (i + 1) 0 → get_or sources p 0 ≡ i
  pub own : (p : ℕ) → get_or starts 0 0 ≤ p → p < length sources → (get_or sources p 0 < k) × IsWithin starts (get_or sources p 0) p

pub record AreBeingSourced (starts sources : List ℕ) (k : ℕ) : Type 0 where
  pub low : get_or starts k 0 ≤ length sources
  pub high : length sources ≤ get_or starts (k + 1) 0
  pub same : (i p : ℕ) → i < k → get_or starts i 0 ≤ p → p < get_or starts (i + 1) 0 → get_or sources p 0 ≡ i
  pub here : (p : ℕ) → get_or starts k 0 ≤ p → p < length sources → get_or sources p 0 ≡ k
  pub own : (p : ℕ) → get_or starts 0 0 ≤ p → p < length sources → (get_or sources p 0 < k + 1) × IsWithin starts (get_or sources p 0) p

pub sourced_start : (starts sources : List ℕ) → sources ≡ replicate (get_or starts 0 0) 0 → length sources ≡ get_or starts 0 0 → AreSourced starts sources 0
sourced_start starts sources is long = record {
  long = long;
  same = λ i p h l u. absurd (omega (arith, h));
  own = λ p l u. absurd (omega (arith, l, u, long));
}

pub sourcing_start : (starts sources : List ℕ) (k : ℕ) → AreSourced starts sources k → get_or starts k 0 ≤ get_or starts (k + 1) 0 → AreBeingSourced starts sources k
sourcing_start starts sources k is rises =
    let long : length sources ≡ get_or starts k 0 = is.long in
    record {
      low = omega (arith, long);
      high = omega (arith, long, rises);
      same = is.same;
      here = λ p l u. absurd (omega (arith, long, l, u));
      own = λ p l u. let it = is.own p l u in let below : get_or sources p 0 < k = it.0 in (omega (arith, below), it.1);
    }

module _ (starts sources : List ℕ) (k : ℕ) (is : AreBeingSourced starts sources k) (rising : (i : ℕ) → i < k → get_or starts i 0 ≤ get_or starts (i + 1) 0) where
  one_more : length (sources ++ k ∷ []) ≡ length sources + 1
  one_more = length-append sources (k ∷ [])

  old_at : (p : ℕ) → p < length sources → get_or (sources ++ k ∷ []) p 0 ≡ get_or sources p 0
  old_at p h = get_or_append_left sources (k ∷ []) 0 p h

  new_at : (p : ℕ) → p ≡ length sources → get_or (sources ++ k ∷ []) p 0 ≡ k
  new_at p e = get_or_push sources k 0 p (sym e)

  by_end : (P : Type 0) (p : ℕ) → p < length (sources ++ k ∷ []) → (p < length sources → P) → (p ≡ length sources → P) → P
  by_end P p h old last =
      elim (p == length sources) as (λ b. (p == length sources) ≡ b → P) [
        | true ↦ λ e. last (number_same p (length sources) e)
        | false ↦ λ e. old (let apart : p ≡ length sources → ⊥ = apart_number p (length sources) e in omega (arith, one_more, h, apart))
      ] refl

  before : (i p : ℕ) → i < k → p < get_or starts (i + 1) 0 → p < length sources
  before i p h u =
      let rise : get_or starts (i + 1) 0 ≤ get_or starts (i + 1 + (k - (i + 1))) 0 = start_rises starts k rising (i + 1) (k - (i + 1)) (omega (arith, h)) in
      let to : get_or starts (i + 1) 0 ≤ get_or starts k 0 = subst (λ x. get_or starts (i + 1) 0 ≤ get_or starts x 0) (let e : i + 1 + (k - (i + 1)) ≡ k = omega (arith, h) in e) rise in
      let low : get_or starts k 0 ≤ length sources = is.low in
      omega (arith, u, to, low)

  pub sourcing_more : length sources < get_or starts (k + 1) 0 → AreBeingSourced starts (sources ++ k ∷ []) k
  sourcing_more room =
      let low : get_or starts k 0 ≤ length sources = is.low in
      record {
        low = omega (arith, one_more, low);
        high = omega (arith, one_more, room);
        same = λ i p h l u. old_at p (before i p h u) ∙ is.same i p h l u;
        here = λ p l u. by_end (get_or (sources ++ k ∷ []) p 0 ≡ k) p u (λ old. old_at p old ∙ is.here p l old) (new_at p);
        own = λ p l u. by_end ((get_or (sources ++ k ∷ []) p 0 < k + 1) × IsWithin starts (get_or (sources ++ k ∷ []) p 0) p) p u
            (λ old. subst (λ x. (x < k + 1) × IsWithin starts x p) (sym (old_at p old)) (is.own p l old))
            (λ last. subst (λ x. (x < k + 1) × IsWithin starts x p) (sym (new_at p last)) (omega arith, (omega (arith, last, low), omega (arith, last, room))));
      }

pub sourced_more : (starts sources : List ℕ) (k : ℕ) → AreBeingSourced starts sources k → get_or starts (k + 1) 0 ≤ length sources → AreSourced starts sources (k + 1)
sourced_more starts sources k is full =
    let high : length sources ≤ get_or starts (k + 1) 0 = is.high in
    let long : length sources ≡ get_or starts (k + 1) 0 = omega (arith, high, full) in
    record {
      long = long;
      same = λ i p h l u. by_number (λ x. get_or starts x 0 ≤ p → p < get_or starts (x + 1) 0 → get_or sources p 0 ≡ x) k i
          (λ l u. is.here p l (omega (arith, u, long)))
          (λ e l u. is.same i p (let apart : i ≡ k → ⊥ = apart_number i k e in omega (arith, apart, h)) l u) l u;
      own = is.own;
    }

pub sourced_end : (starts sources : List ℕ) (k : ℕ) → AreSourced starts sources k → AreSources k (get_or starts k 0) starts sources
sourced_end starts sources k is = record {
  long = is.long;
  same = is.same;
  own = λ p l u. is.own p l (let long : length sources ≡ get_or starts k 0 = is.long in omega (arith, u, long));
}

-- The places that name an object, place by place.

pub record AreHeldTo (objects : ℕ) (targets : List ℕ) (holders : List (List ℕ)) (k : ℕ) : Type 0 where
  pub long : length holders ≡ objects
  pub each : (i : ℕ) → i < objects → get_or holders i [] ≡ filter (λ p. get_or targets p 0 == i) (upto k)

pub holders_start : (objects : ℕ) (targets : List ℕ) (holders : List (List ℕ)) → length holders ≡ objects → ((i : ℕ) → i < objects → get_or holders i [] ≡ []) → AreHeldTo objects targets holders 0
holders_start objects targets holders long none = record { long = long; each = none }

not_number : (a b : ℕ) → (a ≡ b → ⊥) → (a == b) ≡ false
not_number a b apart = grind (arith, nat_tests, apart)

pub other_way : (a b : ℕ) → (a == b) ≡ false → (b == a) ≡ false
other_way a b e = grind (arith, nat_tests, e)

append_nil : (xs : List ℕ) → xs ++ [] ≡ xs
append_nil xs = append-nil xs

pub kept_more : (test : ℕ → Bool) (k : ℕ) → test k ≡ true → filter test (upto (k + 1)) ≡ filter test (upto k) ++ k ∷ []
kept_more test k e = filter_upto test k ∙ ap (λ b. filter test (upto k) ++ cond b (k ∷ []) []) e

pub left_more : (test : ℕ → Bool) (k : ℕ) → test k ≡ false → filter test (upto (k + 1)) ≡ filter test (upto k)
left_more test k e = filter_upto test k ∙ ap (λ b. filter test (upto k) ++ cond b (k ∷ []) []) e ∙ append_nil (filter test (upto k))

pub holders_more : (objects : ℕ) (targets : List ℕ) (holders : List (List ℕ)) (k t : ℕ) → AreHeldTo objects targets holders k → get_or targets k 0 ≡ t → t < objects
    → AreHeldTo objects targets (set holders t (get_or holders t [] ++ k ∷ [])) (k + 1)
holders_more objects targets holders k t is at within = record {
  long = length-set holders t (get_or holders t [] ++ k ∷ []) ∙ is.long;
  each = λ i h. by_number (λ x. x < objects → get_or (set holders t (get_or holders t [] ++ k ∷ [])) x [] ≡ filter (λ p. get_or targets p 0 == x) (upto (k + 1))) t i
      (λ g. get_or-set_same holders t (get_or holders t [] ++ k ∷ []) [] (subst (λ n. t < n) (sym is.long) within) ∙ ap (λ xs. xs ++ k ∷ []) (is.each t within)
      ∙ sym (kept_more (λ p. get_or targets p 0 == t) k (subst (λ x. (x == t) ≡ true) (sym at) (same_number t))))
      (λ e g. get_or-set_other holders t i (get_or holders t [] ++ k ∷ []) [] (apart_number i t e) ∙ is.each i g
      ∙ sym (left_more (λ p. get_or targets p 0 == i) k (subst (λ x. (x == i) ≡ false) (sym at) (other_way i t e)))) h;
}

pub holders_none : (objects : ℕ) (targets : List ℕ) (holders : List (List ℕ)) (k t : ℕ) → AreHeldTo objects targets holders k → get_or targets k 0 ≡ t → objects ≤ t → AreHeldTo objects targets holders (k + 1)
holders_none objects targets holders k t is at beyond = record {
  long = is.long;
  each = λ i h. is.each i h ∙ sym (left_more (λ p. get_or targets p 0 == i) k (subst (λ x. (x == i) ≡ false) (sym at) (not_number t i (λ e. omega (arith, e, h, beyond)))));
}

-- All lists of a graph together.

sources_to : (n count : ℕ) (starts sources : List ℕ) → AreStarts n count starts → AreSources (length starts - 1) (get_or starts (length starts - 1) 0) starts sources → AreSources n count starts sources
sources_to n count starts sources are given =
    let long : length starts ≡ n + 1 = are.long in
    let to : length starts - 1 ≡ n = omega (arith, long) in
    subst (λ c. AreSources n c starts sources) are.last (subst (λ k. AreSources k (get_or starts k 0) starts sources) to given)

pub starts_positive : (n count : ℕ) (starts : List ℕ) → AreStarts n count starts → 0 < length starts
starts_positive n count starts are = let long : length starts ≡ n + 1 = are.long in omega (arith, long)

pub starts_rise : (n count : ℕ) (starts : List ℕ) → AreStarts n count starts → (i : ℕ) → i + 1 < length starts → get_or starts i 0 ≤ get_or starts (i + 1) 0
starts_rise n count starts are i h = let long : length starts ≡ n + 1 = are.long in are.rising i (omega (arith, long, h))

pub all_laid : (objects : List ℕ) (alive : List Bool) (count : ℕ) (targets sources starts : List ℕ) (holders : List (List ℕ)) → IsRising objects → length alive ≡ length objects → length targets ≡ count
    → AreStarts (length objects) count starts → AreSources (length starts - 1) (get_or starts (length starts - 1) 0) starts sources → AreHolders (length objects) targets holders
    → AreLaid objects alive count targets sources starts holders
all_laid objects alive count targets sources starts holders rising al tl are given hold = record {
  rising = rising;
  alive_long = al;
  targets_long = tl;
  are_starts = are;
  are_sources = sources_to (length objects) count starts sources are given;
  are_holders = hold;
}

-- one more of a list each of whose numbers is so
pub push_each : (P : ℕ → ℕ → Type 0) (xs : List ℕ) (k t : ℕ) → length xs ≡ k → ((p : ℕ) → p < k → P p (get_or xs p 0)) → P k t → (length (xs ++ t ∷ []) ≡ k + 1) × ((p : ℕ) → p < k + 1 → P p (get_or (xs ++ t ∷ []) p 0))
push_each P xs k t long all this =
    let one : length (xs ++ t ∷ []) ≡ length xs + 1 = length-append xs (t ∷ []) in (
      omega (arith, one, long),
      λ p h. by_number (λ q. P q (get_or (xs ++ t ∷ []) q 0)) k p (subst (λ x. P k x) (sym (get_or_push xs t 0 k long)) this)
          (λ e. let below : p < k = (let apart : p ≡ k → ⊥ = apart_number p k e in omega (arith, apart, h)) in
          subst (λ x. P p x) (sym (get_or_append_left xs (t ∷ []) 0 p (omega (arith, below, long)))) (all p below)),
    )

-- where an object stands among objects that rise
rise_apart : (objects : List ℕ) (a b : ℕ) → IsRising objects → a < length objects → b < length objects → get_or objects a 0 ≡ get_or objects b 0 → a ≡ b
rise_apart objects a b rising ha hb e =
    elim (nat_lt a b) as (λ x. nat_lt a b ≡ x → a ≡ b) [
      | true ↦ λ t. absurd (let l : get_or objects a 0 < get_or objects b 0 = rising a b (grind (arith, nat_tests, t)) hb in omega (arith, l, e))
      | false ↦ λ f. elim (nat_lt b a) as (λ x. nat_lt b a ≡ x → a ≡ b) [
        | true ↦ λ t. absurd (let l : get_or objects b 0 < get_or objects a 0 = rising b a (grind (arith, nat_tests, t)) ha in omega (arith, l, e))
        | false ↦ λ n. grind (arith, nat_tests, f, n)
      ] refl
    ] refl

pub target_found : (objects : List ℕ) (slot : Slot) (object t : ℕ) → IsRising objects → named_by slot ≡ Some object → t < length objects → get_or objects t 0 ≡ object → IsTarget objects slot t
target_found objects slot object t rising named within at o i n h =
    let same : object ≡ o = (let u : Some object ≡ Some o = sym named ∙ n in cc) in
    (λ e. sym same ∙ sym at ∙ ap (λ x. get_or objects x 0) e, λ e. rise_apart objects t i rising within h (at ∙ same ∙ e))

pub target_none : (objects : List ℕ) (slot : Slot) (object t : ℕ) → named_by slot ≡ Some object → t ≡ length objects → ((k : ℕ) → k < length objects → get_or objects k 0 ≡ object → ⊥) → IsTarget objects slot t
target_none objects slot object t named beyond none o i n h =
    let same : object ≡ o = (let u : Some object ≡ Some o = sym named ∙ n in cc) in
    (λ e. absurd (omega (arith, e, h, beyond)), λ e. absurd (none i h (sym e ∙ sym same)))

-- what a binary search finds
pub rising_order : (objects : List ℕ) → IsRising objects → (i j : ℕ) → i ≤ j → j < length objects → get_or objects i 0 ≤ get_or objects j 0
rising_order objects rising i j h k =
    by_number (λ x. i ≤ x → x < length objects → get_or objects i 0 ≤ get_or objects x 0) i j (λ a b. let e : get_or objects i 0 ≤ get_or objects i 0 = omega arith in e)
    (λ apart a b. let l : get_or objects i 0 < get_or objects j 0 = rising i j (let other : j ≡ i → ⊥ = apart_number j i apart in omega (arith, other, a)) b in omega (arith, l)) h k

pub search_found : (objects : List ℕ) (object : ℕ) (r : Result ℕ ℕ) (i : ℕ) → IsRising objects → IsBinarySearchResult (λ y. nat_cmp y object) objects r → r ≡ Ok i → (i < length objects) × (get_or objects i 0 ≡ object)
search_found objects object r i rising found e =
    let all = searched objects object r found (rising_order objects rising) in
    let P : Result ℕ ℕ → Type 0 = λ x. MatchResult x (λ i. (i < length objects) × (get_or objects i 0 ≡ object)) (λ i. (i ≤ length objects) × ((k : ℕ) → k < i → get_or objects k 0 < object) × ((k : ℕ) → i ≤ k → k < length objects → object < get_or objects k 0)) in
    let at : P (Ok i) = subst P e all in at

pub search_none : (objects : List ℕ) (object : ℕ) (r : Result ℕ ℕ) (i : ℕ) → IsRising objects → IsBinarySearchResult (λ y. nat_cmp y object) objects r → r ≡ Err i → (k : ℕ) → k < length objects → get_or objects k 0 ≡ object → ⊥
search_none objects object r i rising found e k h same =
    let all = searched objects object r found (rising_order objects rising) in
    let P : Result ℕ ℕ → Type 0 = λ x. MatchResult x (λ i. (i < length objects) × (get_or objects i 0 ≡ object)) (λ i. (i ≤ length objects) × ((k : ℕ) → k < i → get_or objects k 0 < object) × ((k : ℕ) → i ≤ k → k < length objects → object < get_or objects k 0)) in
    let at : P (Err i) = subst P e all in
    elim (nat_lt k i) as (λ x. nat_lt k i ≡ x → ⊥) [
      | true ↦ λ t. let l : get_or objects k 0 < object = at.1 k (grind (arith, nat_tests, t)) in omega (arith, l, same)
      | false ↦ λ f. let l : object < get_or objects k 0 = at.2 k (grind (arith, nat_tests, f)) h in omega (arith, l, same)
    ] refl
