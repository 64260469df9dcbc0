-- What an object retains, by the numbers of a graph: the least set that has it, and each object that is held by fields of members alone
-- (profile of this project).
use Rattle.std.specs.Prelude.{ℕ, zero, suc, ◌≡◌, ◌+◌, ◌<◌, ◌==◌, List, [], ◌∷◌, Option, Some, None, Bool, true, false, if◌then◌else◌}
use Rattle.ownership_model.specs.Reach.{has}
use Rattle.retention.specs.declared.graph.Graph.{Graph}
use Rattle.retention.specs.Graph.{size, places, holds, IsFieldAt}

-- whether a place that holds this holds the object
abbrev pub is_target : Option ℕ → ℕ → Bool
is_target None t = false
is_target (Some k) t = k == t

-- how many of the numbers below n pass a test
abbrev pub count_below : (ℕ → Bool) → ℕ → ℕ
count_below f zero = 0
count_below f (suc n) = (if f n then 1 else 0) + count_below f n

-- how many places hold an object
abbrev pub arcs : Graph → ℕ → ℕ
arcs g t = count_below (λ p. is_target (holds g p) t) (places g)

-- some place holds the object, and each that does is a field of one of these
abbrev pub IsHeldBy : Graph → (ℕ → Type 0) → ℕ → Type 0
IsHeldBy g Of t = (0 < arcs g t) × ((p : ℕ) → p < places g → holds g p ≡ Some t → (j : ℕ) × Of j × IsFieldAt g j p)

-- no number stands in the list twice
abbrev pub AreApart : List ℕ → Type 0
AreApart [] = Unit {0}
AreApart (x ∷ xs) = (has x xs ≡ false) × AreApart xs

-- the objects that one retains, each once
pub record AreRetained (g : Graph) (first : ℕ) (xs : List ℕ) : Type 0 where
  pub within : (i : ℕ) → has i xs ≡ true → i < size g
  pub distinct : AreApart xs
  pub itself : has first xs ≡ true
  pub closed : (t : ℕ) → t < size g → IsHeldBy g (λ j. has j xs ≡ true) t → has t xs ≡ true
  pub least : (k : ℕ → Bool) → k first ≡ true → ((t : ℕ) → t < size g → IsHeldBy g (λ j. k j ≡ true) t → k t ≡ true) → (i : ℕ) → has i xs ≡ true → k i ≡ true
