-- Tests and filters of numbers.
use Rattle.std.proofs.Common.{◌≡◌, ℕ, List, [], ◌∷◌, refl, ap, ◌∙◌, arith, Bool, true, false}
use Rattle.std.specs.Prelude.{◌==◌, ◌||◌, if◌then◌else◌, filter, not}
use Rattle.std.proofs.lemmas.Bool.Decides.{nat_tests}
use Rattle.ownership_model.specs.Reach.{has}

pub clash : (b : Bool) → b ≡ true → b ≡ false → ⊥
clash true t f = absurd cc
clash false t f = absurd cc

pub not_false : (b : Bool) → b ≡ false → not b ≡ true
not_false true f = absurd cc
not_false false f = refl

pub not_true : (b : Bool) → b ≡ true → not b ≡ false
not_true true t = refl
not_true false t = absurd cc

pub is_false : (b : Bool) → not b ≡ true → b ≡ false
is_false true t = absurd cc
is_false false t = refl

pub left_false : (a b : Bool) → (a || b) ≡ false → a ≡ false
left_false true b f = absurd cc
left_false false b f = refl

pub right_false : (a b : Bool) → (a || b) ≡ false → b ≡ false
right_false true b f = absurd cc
right_false false b f = f

-- what isn't told follows from what is not so
pub contrary : (a b : Bool) → (a ≡ true → b ≡ true) → b ≡ false → a ≡ false
contrary true b p f = absurd (clash b (p refl) f)
contrary false b p f = refl

-- ---- filters
pub filter_keeps : (p : ℕ → Bool) (h : ℕ) (hs : List ℕ) → p h ≡ true → filter p (h ∷ hs) ≡ h ∷ filter p hs
filter_keeps p h hs e = ap (λ b. if b then h ∷ filter p hs else filter p hs) e

pub filter_drops : (p : ℕ → Bool) (h : ℕ) (hs : List ℕ) → p h ≡ false → filter p (h ∷ hs) ≡ filter p hs
filter_drops p h hs e = ap (λ b. if b then h ∷ filter p hs else filter p hs) e

pub itself : (h : ℕ) → (h == h) ≡ true
itself h = grind (arith, nat_tests)

pub or_right : (a b : Bool) → b ≡ true → (a || b) ≡ true
or_right true b t = refl
or_right false b t = t

pub has_first : (h : ℕ) (hs : List ℕ) → has h (h ∷ hs) ≡ true
has_first h hs = ap (λ b. b || has h hs) (itself h)

-- a test that all pass drops none
pub filter_all : (p : ℕ → Bool) (hs : List ℕ) → ((h : ℕ) → has h hs ≡ true → p h ≡ true) → filter p hs ≡ hs
filter_all p [] all = refl
filter_all p (h ∷ hs) all = filter_keeps p h hs (all h (has_first h hs)) ∙ ap (λ xs. h ∷ xs) (filter_all p hs (λ g here. all g (or_right (h == g) (has g hs) here)))

-- what passes the first of two tests passes the second anyway
skip_next : (p q : ℕ → Bool) (h : ℕ) (xs ys : List ℕ) (b c : Bool) → p h ≡ b → q h ≡ c → (p h ≡ true → q h ≡ true) → filter p ys ≡ xs → filter p (if c then h ∷ ys else ys) ≡ (if b then h ∷ xs else xs)
skip_next p q h xs ys true true e f more same = filter_keeps p h ys e ∙ ap (λ zs. h ∷ zs) same
skip_next p q h xs ys true false e f more same = absurd (clash (q h) (more e) f)
skip_next p q h xs ys false true e f more same = filter_drops p h ys e ∙ same
skip_next p q h xs ys false false e f more same = same

pub filter_skip : (p q : ℕ → Bool) → ((h : ℕ) → p h ≡ true → q h ≡ true) → (hs : List ℕ) → filter p (filter q hs) ≡ filter p hs
filter_skip p q more [] = refl
filter_skip p q more (h ∷ hs) = skip_next p q h (filter p hs) (filter q hs) (p h) (q h) refl refl (more h) (filter_skip p q more hs)
