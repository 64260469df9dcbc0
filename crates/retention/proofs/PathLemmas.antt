-- Paths, one after another; and numbers in lists.
use Rattle.std.proofs.Common.{◌≡◌, ℕ, zero, suc, ◌<◌, inl, inr, List, [], ◌∷◌, ◌++◌, length, get_or, set, refl, sym, ◌∙◌, subst, arith, Bool, true, false, get_or-set_same, get_or-set_other}
use Rattle.std.specs.Prelude.{◌==◌, ◌||◌}
use Rattle.std.specs.List.{All}
use Rattle.ownership_model.specs.Reach.{has}
use Rattle.ownership_model.proofs.Searching.{has-append, or_left, or_right}
use Rattle.retention.specs.Paths.{Chain, Path, Same, marked}
use Rattle.retention.proofs.WalkSteps.{number_same, same_number, apart_number}

-- Numbers in lists.

pub has_at : (xs : List ℕ) (i : ℕ) → i < length xs → has (get_or xs i 0) xs ≡ true
has_at [] i h = absurd (omega (arith, h))
has_at (x ∷ xs) zero h = or_left (x == x) (has x xs) (same_number x)
has_at (x ∷ xs) (suc i) h = or_right (x == get_or xs i 0) (has (get_or xs i 0) xs) (has_at xs i (omega (arith, h)))

abbrev pub At : List ℕ → ℕ → Type 0
At xs x = (i : ℕ) × (i < length xs) × (get_or xs i 0 ≡ x)

at_next : (y : ℕ) (xs : List ℕ) (x : ℕ) → At xs x → At (y ∷ xs) x
at_next y xs x it = let h : it.0 < length xs = it.1 in (suc it.0, omega (arith, h), it.2)

at_either : (y : ℕ) (xs : List ℕ) (x : ℕ) (b : Bool) → (y == x) ≡ b → (has x xs ≡ true → At xs x) → (b || has x xs) ≡ true → At (y ∷ xs) x
at_either y xs x true e rest h = (zero, omega arith, number_same y x e)
at_either y xs x false e rest h = at_next y xs x (rest h)

pub at_has : (xs : List ℕ) (x : ℕ) → has x xs ≡ true → At xs x
at_has [] x h = absurd cc
at_has (y ∷ xs) x h = at_either y xs x (y == x) refl (at_has xs x) h

default_at : (xs : List ℕ) (k d : ℕ) → k < length xs → get_or xs k 0 ≡ get_or xs k d
default_at [] k d l = absurd (omega (arith, l))
default_at (x ∷ xs) zero d l = refl
default_at (x ∷ xs) (suc k) d l = default_at xs k d (omega (arith, l))

-- what is so of each number in a list
pub has_all : (P : ℕ → Type 0) (xs : List ℕ) → ((z : ℕ) → has z xs ≡ true → P z) → All P xs
has_all P xs h k d l = subst (λ x. P x) (default_at xs k d l) (h (get_or xs k 0) (has_at xs k l))

-- the last one
pub has_last : (xs : List ℕ) (x : ℕ) → has x (xs ++ x ∷ []) ≡ true
has_last xs x = has-append x xs (x ∷ []) ∙ or_right (has x xs) (has x (x ∷ [])) (or_left (x == x) false (same_number x))

pub has_before : (xs : List ℕ) (x y : ℕ) → has y xs ≡ true → has y (xs ++ x ∷ []) ≡ true
has_before xs x y h = has-append y xs (x ∷ []) ∙ or_left (has y xs) (has y (x ∷ [])) h

either_bool : (P : Type 0) (a b : Bool) → (a || (b || false)) ≡ true → (a ≡ true → P) → (b ≡ true → P) → P
either_bool P true b h p q = p refl
either_bool P false true h p q = q refl
either_bool P false false h p q = absurd cc

-- one of those before, or the last one
pub by_last : (P : Type 0) (xs : List ℕ) (x y : ℕ) → has y (xs ++ x ∷ []) ≡ true → (has y xs ≡ true → P) → (x ≡ y → P) → P
by_last P xs x y h old last = either_bool P (has y xs) (x == y) (sym (has-append y xs (x ∷ [])) ∙ h) old (λ e. last (number_same x y e))

neither_bool : (a b : Bool) → (a || (b || false)) ≡ false → (a ≡ false) × (b ≡ false)
neither_bool true b h = absurd cc
neither_bool false true h = absurd cc
neither_bool false false h = (refl, refl)

pub not_last : (xs : List ℕ) (x y : ℕ) → has y (xs ++ x ∷ []) ≡ false → (has y xs ≡ false) × ((x == y) ≡ false)
not_last xs x y h = neither_bool (has y xs) (x == y) (sym (has-append y xs (x ∷ [])) ∙ h)

-- Marks.

pub mark_same : (marks : List Bool) (t : ℕ) → t < length marks → marked (set marks t true) t ≡ true
mark_same marks t h = get_or-set_same marks t true false h

pub mark_other : (marks : List Bool) (t x : ℕ) → (x == t) ≡ false → marked (set marks t true) x ≡ marked marks x
mark_other marks t x e = get_or-set_other marks t x true false (apart_number x t e)

-- Paths.
module _ (Edge : ℕ → ℕ → Type 0) where
  pub join : (a b c : ℕ) (bs cs : List ℕ) → Chain Edge a bs b → Chain Edge b cs c → Chain Edge a (bs ++ b ∷ cs) c
  join a b c [] cs p q = (p, q)
  join a b c (d ∷ bs) cs p q = (p.0, join d b c bs cs p.1 q)

  pub path_trans : (a b c : ℕ) → Path Edge a b → Path Edge b c → Path Edge a c
  path_trans a b c p q = (p.0 ++ b ∷ q.0, join a b c p.0 q.0 p.1 q.1)

  pub same_sym : (a b : ℕ) → Same Edge a b → Same Edge b a
  same_sym a b (inl e) = inl (sym e)
  same_sym a b (inr p) = inr (p.1, p.0)

  pub same_path : (a b c : ℕ) → Same Edge a b → Path Edge b c → Path Edge a c
  same_path a b c (inl e) q = subst (λ x. Path Edge x c) (sym e) q
  same_path a b c (inr p) q = path_trans a b c p.0 q

  pub path_same : (a b c : ℕ) → Path Edge a b → Same Edge b c → Path Edge a c
  path_same a b c p (inl e) = subst (λ x. Path Edge a x) e p
  path_same a b c p (inr q) = path_trans a b c p q.0

  pub same_trans : (a b c : ℕ) → Same Edge a b → Same Edge b c → Same Edge a c
  same_trans a b c (inl e) q = subst (λ x. Same Edge x c) (sym e) q
  same_trans a b c (inr p) q = inr (path_same a b c p.0 q, same_path c b a (same_sym b c q) p.1)
