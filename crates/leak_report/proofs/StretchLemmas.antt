-- Stretches one after another.
use Rattle.std.proofs.Common.{◌≡◌, ℕ, ◌+◌, ◌<◌, ◌≤◌, List, [], ◌∷◌, ◌++◌, length, get_or, take, drop, Bool, cond, refl, ap, sym, ◌∙◌, arith, flat_map, count_by, fold, length-append}
use Rattle.std.proofs.lemmas.List.{take_more, append-nil, take-append-drop}
use Rattle.std.proofs.lemmas.List.Concat.{flat_map-append}
use Rattle.std.proofs.lemmas.List.Sums.{count_by-le-length}
use Rattle.trace_types.specs.declared.outcomes.Outcome.{Outcome}
use Rattle.trace_types.specs.declared.stretches.Stretch.{Stretch}
use Rattle.trace_types.specs.Stretches.{ops_of, outcomes_of}

-- one element more
pub flat_map_more : {X A : Type 0} (f : X → List A) (xs : List X) (i : ℕ) (x : X) → i < length xs → x ≡ get_or xs i x → flat_map f (take (i + 1) xs) ≡ flat_map f (take i xs) ++ f x
flat_map_more f xs i x h is =
    ap (flat_map f) (take_more xs i x h)
    ∙ flat_map-append f (take i xs) (get_or xs i x ∷ [])
    ∙ ap (λ ys. flat_map f (take i xs) ++ ys) (append-nil (f (get_or xs i x)) ∙ ap f (sym is))

pub flat_map_front : {X A : Type 0} (f : X → List A) (xs : List X) (n : ℕ) → length (flat_map f (take n xs)) ≤ length (flat_map f xs)
flat_map_front f xs n =
    let both : flat_map f xs ≡ flat_map f (take n xs) ++ flat_map f (drop n xs) = ap (flat_map f) (sym (take-append-drop n xs)) ∙ flat_map-append f (take n xs) (drop n xs) in
    omega (arith, ap length both, length-append (flat_map f (take n xs)) (flat_map f (drop n xs)))

-- there are as many outcomes as operations
pub as_many : (stretches : List Stretch) → length (outcomes_of stretches) ≡ length (ops_of stretches)
as_many [] = refl
as_many (s ∷ stretches) =
    omega (arith, s.even, as_many stretches, length-append s.outcomes.now (outcomes_of stretches), length-append s.ops.now (ops_of stretches))

count_from : {X : Type 0} (p : X → Bool) (n : ℕ) (xs ys : List X) → fold (λ a x. a + cond (p x) 1 0) n (xs ++ ys) ≡ fold (λ a x. a + cond (p x) 1 0) (fold (λ a x. a + cond (p x) 1 0) n xs) ys
count_from p n [] ys = refl
count_from p n (x ∷ xs) ys = count_from p (n + cond (p x) 1 0) xs ys

count_onto : {X : Type 0} (p : X → Bool) (n : ℕ) (xs : List X) → fold (λ a x. a + cond (p x) 1 0) n xs ≡ n + count_by p xs
count_onto p n [] = omega arith
count_onto p n (x ∷ xs) =
    let one : count_by p (x ∷ xs) ≡ fold (λ a y. a + cond (p y) 1 0) (0 + cond (p x) 1 0) xs = refl in
    count_onto p (n + cond (p x) 1 0) xs ∙ omega (arith, one, count_onto p (0 + cond (p x) 1 0) xs)

pub count_by-append : {X : Type 0} (p : X → Bool) (xs ys : List X) → count_by p (xs ++ ys) ≡ count_by p xs + count_by p ys
count_by-append p xs ys = count_from p 0 xs ys ∙ count_onto p (count_by p xs) ys

-- no more outcomes of a front pass a test than there are operations
pub count_front : (p : Outcome → Bool) (stretches : List Stretch) (n : ℕ) → count_by p (outcomes_of (take n stretches)) ≤ length (ops_of stretches)
count_front p stretches n =
    omega (arith, count_by-le-length p (outcomes_of (take n stretches)), flat_map_front (λ (s : Stretch). s.outcomes.now) stretches n, as_many stretches)
