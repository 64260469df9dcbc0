-- Lists of names, and the names at the keys of a map.
use Rattle.std.proofs.Common.{◌≡◌, ℕ, List, [], ◌∷◌, ◌++◌, refl, ap, ◌∙◌, sym, subst, arith, Bool, true, false}
use Rattle.std.specs.Prelude.{◌==◌, not, Option, Some, None, flat_map, is_some}
use Rattle.std.specs.Ordering.{nat_cmp}
use Rattle.std.specs.FinMap.{FinMap, get, keys, contains_key-keys}
use Rattle.std.proofs.lemmas.Bool.Decides.{nat_tests}
use Rattle.ownership_model.specs.Reach.{has}
use Rattle.ownership_model.proofs.Searching.{has-append, has_as_any, either, or_left, or_right}

-- the set has all names of a list
abbrev pub HasAll : (ℕ → Bool) → List ℕ → Type 0
HasAll k os = (o : ℕ) → has o os ≡ true → k o ≡ true

pub all_left : (k : ℕ → Bool) (xs ys : List ℕ) → HasAll k (xs ++ ys) → HasAll k xs
all_left k xs ys h o is = h o (has-append o xs ys ∙ or_left (has o xs) (has o ys) is)

pub all_right : (k : ℕ → Bool) (xs ys : List ℕ) → HasAll k (xs ++ ys) → HasAll k ys
all_right k xs ys h o is = h o (has-append o xs ys ∙ or_right (has o xs) (has o ys) is)

pub all_joined : (k : ℕ → Bool) (xs ys : List ℕ) → HasAll k xs → HasAll k ys → HasAll k (xs ++ ys)
all_joined k xs ys f g o is = either (k o ≡ true) (has o xs) (has o ys) (sym (has-append o xs ys) ∙ is) (f o) (g o)

pub only_one : (k : ℕ → Bool) (p : ℕ) → k p ≡ true → HasAll k (p ∷ [])
only_one k p h o is = let e : p ≡ o = grind (arith, nat_tests, is) in subst (λ x. k x ≡ true) e h

-- the names at one key are among the names of all keys
pub one_of_all : (k : ℕ → Bool) (f : ℕ → List ℕ) (xs : List ℕ) (x : ℕ) → has x xs ≡ true → HasAll k (flat_map f xs) → HasAll k (f x)
one_of_all k f [] x is h = absurd cc
one_of_all k f (y ∷ ys) x is h = either (HasAll k (f x)) (y == x) (has x ys) is
    (λ e. let same : y ≡ x = grind (arith, nat_tests, e) in subst (λ z. HasAll k (f z)) same (all_left k (f y) (flat_map f ys) h))
    (λ e. one_of_all k f ys x e (all_right k (f y) (flat_map f ys) h))

pub all_of_each : (k : ℕ → Bool) (f : ℕ → List ℕ) (xs : List ℕ) → ((x : ℕ) → HasAll k (f x)) → HasAll k (flat_map f xs)
all_of_each k f [] h = λ o is. absurd cc
all_of_each k f (x ∷ xs) h = all_joined k (f x) (flat_map f xs) (h x) (all_of_each k f xs h)

-- a key that is not there names nothing, so the keys that are there are enough
pub at_each_key : {X : Type 0} (k : ℕ → Bool) (map : FinMap nat_cmp X) (f : Option X → List ℕ) → f None ≡ [] → HasAll k (flat_map (λ x. f (get map x)) (keys map)) → (x : ℕ) → HasAll k (f (get map x))
at_each_key {X = X} k map f none h x = cases (get map x) refl
  where
    cases : (e : Option X) → get map x ≡ e → HasAll k (f e)
    cases None is = λ o named. absurd (grind (arith, none, named))
    cases (Some e) is =
        subst (λ v. HasAll k (f v)) is
        (one_of_all k (λ q. f (get map q)) (keys map) x (sym (has_as_any x (keys map)) ∙ sym (contains_key-keys map x) ∙ ap is_some is) h)

-- a list without a name is one with other names alone
pub all_but : (o : ℕ) (xs : List ℕ) → has o xs ≡ false → HasAll (λ q. not (q == o)) xs
all_but o xs none q is = apart (q == o) refl
  where
    apart : (b : Bool) → (q == o) ≡ b → not b ≡ true
    apart true e = let same : q ≡ o = grind (arith, nat_tests, e) in absurd (grind (arith, none, is, subst (λ x. has q xs ≡ has x xs) same refl))
    apart false e = refl

pub but_all : (o : ℕ) (xs : List ℕ) → HasAll (λ q. not (q == o)) xs → has o xs ≡ false
but_all o xs h = found (has o xs) refl
  where
    found : (b : Bool) → has o xs ≡ b → b ≡ false
    found true is = absurd (grind (arith, nat_tests, h o is))
    found false is = refl
