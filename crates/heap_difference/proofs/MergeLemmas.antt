-- Two lists that rise, merged: what holds at each turn.
use Rattle.std.proofs.Common.{◌≡◌, ◌⊎◌, ℕ, zero, suc, ◌+◌, ◌<◌, ◌≤◌, List, [], ◌∷◌, ◌++◌, length, get_or, refl, ap, ◌∙◌, sym, subst, arith, Bool, true, false, inl, inr}
use Rattle.std.proofs.lemmas.Bool.Decides.{nat_tests}
use Rattle.std.proofs.lemmas.Bool.{cases_lt}
use Rattle.std.proofs.lemmas.List.{append-nil, append_assoc}
use Rattle.std.proofs.Math.Nat.{min-eq_left, min_comm}
use Rattle.std.specs.Prelude.{⊤, ◌==◌, ◌||◌, Option, Some, None, if◌then◌else◌, min}
use Rattle.std.specs.List.Sorted.{IsStrictlyIncreasing}
use Rattle.ownership_model.specs.Reach.{has}
use Rattle.ownership_model.proofs.Counting.{same_number}
use Rattle.ownership_model.proofs.Searching.{has-append}
use Rattle.heap_difference.specs.KeySets.{first_number, lesser_of, without_first}
use Rattle.heap_difference.proofs.Tests.{itself}

-- ---- lists that rise
pub rises_tail : (x : ℕ) (xs : List ℕ) → IsStrictlyIncreasing (x ∷ xs) → IsStrictlyIncreasing xs
rises_tail x xs up k within =
    let e : suc k + 1 ≡ suc (k + 1) = omega arith in
    subst (λ n. get_or xs k 0 < get_or (x ∷ xs) n 0) e (up (suc k) (omega (arith, within)))

rises_first : (x y : ℕ) (xs : List ℕ) → IsStrictlyIncreasing (x ∷ y ∷ xs) → x < y
rises_first x y xs up = up 0 (omega arith)

rises_cons : (x y : ℕ) (xs : List ℕ) → x < y → IsStrictlyIncreasing (y ∷ xs) → IsStrictlyIncreasing (x ∷ y ∷ xs)
rises_cons x y xs less up zero within = less
rises_cons x y xs less up (suc k) within =
    let e : suc (k + 1) ≡ suc k + 1 = omega arith in
    subst (λ n. get_or (y ∷ xs) k 0 < get_or (x ∷ y ∷ xs) n 0) e (up k (omega (arith, within)))

rises_none : IsStrictlyIncreasing []
rises_none k within = absurd (omega (arith, within))

rises_one : (x : ℕ) → IsStrictlyIncreasing (x ∷ [])
rises_one x k within = absurd (omega (arith, within))

-- what stands before something in a list that rises
rises_before : (xs ys : List ℕ) → IsStrictlyIncreasing (xs ++ ys) → IsStrictlyIncreasing xs
rises_before [] ys up = rises_none
rises_before (x ∷ []) ys up = rises_one x
rises_before (x ∷ y ∷ xs) ys up = rises_cons x y xs (rises_first x y (xs ++ ys) up) (rises_before (y ∷ xs) ys (rises_tail x (y ∷ xs ++ ys) up))

-- a number goes between
rises_between : (xs : List ℕ) (n m : ℕ) (ys : List ℕ) → IsStrictlyIncreasing (xs ++ n ∷ []) → n < m → IsStrictlyIncreasing (xs ++ m ∷ ys) → IsStrictlyIncreasing (xs ++ n ∷ m ∷ ys)
rises_between [] n m ys low less up = rises_cons n m ys less up
rises_between (x ∷ []) n m ys low less up = rises_cons x n (m ∷ ys) (rises_first x n [] low) (rises_cons n m ys less (rises_tail x (m ∷ ys) up))
rises_between (x ∷ y ∷ xs) n m ys low less up =
    rises_cons x y (xs ++ n ∷ m ∷ ys) (rises_first x y (xs ++ n ∷ []) low)
    (rises_between (y ∷ xs) n m ys (rises_tail x (y ∷ xs ++ n ∷ []) low) less (rises_tail x (y ∷ xs ++ m ∷ ys) up))

-- ---- the number that is next
-- n is no more than the first number, if there is one
abbrev IsLow : ℕ → List ℕ → Type 0
IsLow n [] = ⊤
IsLow n (x ∷ xs) = n ≤ x

-- n is the first number
abbrev IsFirst : ℕ → List ℕ → Type 0
IsFirst n [] = ⊥
IsFirst n (x ∷ xs) = x ≡ n

record IsNext (n : ℕ) (xs ys : List ℕ) : Type 0 where
  low_left : IsLow n xs
  low_right : IsLow n ys
  one : IsFirst n xs ⊎ IsFirst n ys

some_same : (a b : ℕ) → Some a ≡ Some b → a ≡ b
some_same a b e = ap (λ (x : Option ℕ). of x) e
  where
    of : Option ℕ → ℕ
    of None = 0
    of (Some x) = x

is_next : (n : ℕ) (xs ys : List ℕ) → lesser_of (first_number xs) (first_number ys) ≡ Some n → IsNext n xs ys
is_next n [] [] e = absurd cc
is_next n [] (y ∷ ys) e = let is = some_same y n e in record { low_left = tt; low_right = omega (arith, is); one = inr is }
is_next n (x ∷ xs) [] e = let is = some_same x n e in record { low_left = omega (arith, is); low_right = tt; one = inl is }
is_next n (x ∷ xs) (y ∷ ys) e = elim (cases_lt x y) [
  | inl less ↦ (let is : x ≡ n = sym (min-eq_left (omega (arith, less))) ∙ some_same (min x y) n e in
      record { low_left = omega (arith, is); low_right = omega (arith, is, less); one = inl is })
  | inr most ↦ (let is : y ≡ n = sym (min_comm x y ∙ min-eq_left (omega (arith, most))) ∙ some_same (min x y) n e in
      record { low_left = omega (arith, is, most); low_right = omega (arith, is); one = inr is })
]

-- ---- a turn
pub record IsMerging (firsts seconds all xs ys : List ℕ) : Type 0 where
  pub left : IsStrictlyIncreasing (all ++ xs)
  pub right : IsStrictlyIncreasing (all ++ ys)
  pub both : (q : ℕ) → (has q all || (has q xs || has q ys)) ≡ (has q firsts || has q seconds)

pub merge_start : (firsts seconds : List ℕ) → IsStrictlyIncreasing firsts → IsStrictlyIncreasing seconds → IsMerging firsts seconds [] firsts seconds
merge_start firsts seconds up_left up_right = record { left = up_left; right = up_right; both = λ q. refl }

-- what is left of one list rises behind the number
side_rises : (all : List ℕ) (n : ℕ) (xs : List ℕ) → IsStrictlyIncreasing (all ++ n ∷ []) → IsLow n xs → IsStrictlyIncreasing (all ++ xs) → IsStrictlyIncreasing ((all ++ n ∷ []) ++ without_first n xs)
side_rises all n [] upto low up = subst IsStrictlyIncreasing (sym (append-nil (all ++ n ∷ []))) upto
side_rises all n (x ∷ xs) upto low up = at (x == n) refl
  where
    at : (b : Bool) → (x == n) ≡ b → IsStrictlyIncreasing ((all ++ n ∷ []) ++ (if b then xs else x ∷ xs))
    at true e = subst IsStrictlyIncreasing (ap (λ m. all ++ m ∷ xs) (same_number x n e) ∙ sym (append_assoc all (n ∷ []) xs)) up
    at false e =
        let most : n ≤ x = low in
        let less : n < x = grind (arith, nat_tests, most, e) in
        subst IsStrictlyIncreasing (sym (append_assoc all (n ∷ []) (x ∷ xs))) (rises_between all n x xs upto less up)

-- the numbers up to the next one rise
upto_rises : (all : List ℕ) (n : ℕ) (xs : List ℕ) → IsFirst n xs → IsStrictlyIncreasing (all ++ xs) → IsStrictlyIncreasing (all ++ n ∷ [])
upto_rises all n [] first up = absurd first
upto_rises all n (x ∷ xs) first up =
    rises_before (all ++ n ∷ []) xs
    (subst IsStrictlyIncreasing (ap (λ m. all ++ m ∷ xs) first ∙ sym (append_assoc all (n ∷ []) xs)) up)

-- but for the number, nothing is lost
side_has : (n q : ℕ) (xs : List ℕ) → ((n == q) || has q (without_first n xs)) ≡ ((n == q) || has q xs)
side_has n q [] = refl
side_has n q (x ∷ xs) = at (x == n) refl
  where
    same : (b c : Bool) → (b || c) ≡ (b || (b || c))
    same true c = refl
    same false c = refl

    at : (b : Bool) → (x == n) ≡ b → ((n == q) || has q (if b then xs else x ∷ xs)) ≡ ((n == q) || has q (x ∷ xs))
    at true e = same (n == q) (has q xs) ∙ ap (λ m. (n == q) || ((m == q) || has q xs)) (sym (same_number x n e))
    at false e = refl

first_has : (n q : ℕ) (xs : List ℕ) → IsFirst n xs → ((n == q) || has q xs) ≡ has q xs
first_has n q [] first = absurd first
first_has n q (x ∷ xs) first = ap (λ m. (m == q) || ((x == q) || has q xs)) (sym first) ∙ twice (x == q) (has q xs)
  where
    twice : (b c : Bool) → (b || (b || c)) ≡ (b || c)
    twice true c = refl
    twice false c = refl

left_has : (b c d : Bool) → (b || c) ≡ c → (b || (c || d)) ≡ (c || d)
left_has true c d e = ap (λ z. z || d) e
left_has false c d e = refl

right_has : (b c d : Bool) → (b || d) ≡ d → (b || (c || d)) ≡ (c || d)
right_has true true d e = refl
right_has true false d e = e
right_has false c d e = refl

or_step : (a b c d e f : Bool) → (b || e) ≡ (b || c) → (b || f) ≡ (b || d) → (b || (c || d)) ≡ (c || d) → ((a || (b || false)) || (e || f)) ≡ (a || (c || d))
or_step true b c d e f left right told = refl
or_step false true c d e f left right told = told
or_step false false c d e f left right told = ap (λ z. z || f) left ∙ ap (λ z. c || z) right

pub merge_step : (firsts seconds all xs ys : List ℕ) (n : ℕ) → lesser_of (first_number xs) (first_number ys) ≡ Some n → IsMerging firsts seconds all xs ys
    → IsMerging firsts seconds (all ++ n ∷ []) (without_first n xs) (without_first n ys)
merge_step firsts seconds all xs ys n e m = record {
  left = side_rises all n xs upto next.low_left m.left;
  right = side_rises all n ys upto next.low_right m.right;
  both = λ q.
      ap (λ b. b || (has q (without_first n xs) || has q (without_first n ys))) (has-append q all (n ∷ []))
      ∙ or_step (has q all) (n == q) (has q xs) (has q ys) (has q (without_first n xs)) (has q (without_first n ys)) (side_has n q xs) (side_has n q ys) (told q)
      ∙ m.both q;
}
  where
    next : IsNext n xs ys
    next = is_next n xs ys e

    upto : IsStrictlyIncreasing (all ++ n ∷ [])
    upto = elim next.one [
      | inl first ↦ upto_rises all n xs first m.left
      | inr first ↦ upto_rises all n ys first m.right
    ]

    told : (q : ℕ) → ((n == q) || (has q xs || has q ys)) ≡ (has q xs || has q ys)
    told q = elim next.one [
      | inl first ↦ left_has (n == q) (has q xs) (has q ys) (first_has n q xs first)
      | inr first ↦ right_has (n == q) (has q xs) (has q ys) (first_has n q ys first)
    ]

-- ---- the end
side_shorter : (n : ℕ) (xs : List ℕ) → length (without_first n xs) ≤ length xs
side_shorter n [] = omega arith
side_shorter n (x ∷ xs) = at (x == n)
  where
    at : (b : Bool) → length (if b then xs else x ∷ xs) ≤ length (x ∷ xs)
    at true = omega arith
    at false = omega arith

first_shorter : (n : ℕ) (xs : List ℕ) → IsFirst n xs → length (without_first n xs) < length xs
first_shorter n [] first = absurd first
first_shorter n (x ∷ xs) first =
    let short : length (without_first n (x ∷ xs)) ≡ length xs = ap (λ b. length (if b then xs else x ∷ xs)) (ap (λ m. m == n) first ∙ itself n) in
    omega (arith, short)

pub merge_shorter : (xs ys : List ℕ) (n : ℕ) → lesser_of (first_number xs) (first_number ys) ≡ Some n → length (without_first n xs) + length (without_first n ys) < length xs + length ys
merge_shorter xs ys n e = elim (is_next n xs ys e).one [
  | inl first ↦ omega (arith, first_shorter n xs first, side_shorter n ys)
  | inr first ↦ omega (arith, first_shorter n ys first, side_shorter n xs)
]

pub merge_end : (firsts seconds all xs ys : List ℕ) → lesser_of (first_number xs) (first_number ys) ≡ None → IsMerging firsts seconds all xs ys
    → IsStrictlyIncreasing all × ((q : ℕ) → has q all ≡ (has q firsts || has q seconds))
merge_end firsts seconds all [] [] e m = (subst IsStrictlyIncreasing (append-nil all) m.left, λ q. sym (no_more (has q all)) ∙ m.both q)
  where
    no_more : (b : Bool) → (b || false) ≡ b
    no_more true = refl
    no_more false = refl
merge_end firsts seconds all [] (y ∷ ys) e m = absurd cc
merge_end firsts seconds all (x ∷ xs) [] e m = absurd cc
merge_end firsts seconds all (x ∷ xs) (y ∷ ys) e m = absurd cc
