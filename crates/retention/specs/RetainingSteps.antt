-- How the objects that one retains are found, field by field (profile of this project).
use Rattle.std.specs.Prelude.{ℕ, ◌≡◌, ◌≢◌, ◌+◌, ◌-◌, ◌<◌, ◌^◌, ◌==◌, ◌⊎◌, ◌&&◌, not, nat_lt, List, [], ◌∷◌, ◌++◌, length, Some, None, Bool, true, slice_index, slice_set, if◌then◌else◌}
use Rattle.ownership_model.specs.Reach.{has}
use Rattle.retention.specs.declared.graph.Graph.{Graph}
use Rattle.retention.specs.Graph.{size, places, holds, IsFieldAt}
use Rattle.retention.specs.Retaining.{is_target, count_below, arcs, IsHeldBy, AreApart}

-- Before a count: of each object, how many places hold it
pub record IsReady (g : Graph) (missing passed : List ℕ) : Type 0 where
  pub long : length missing ≡ size g
  pub each : (t : ℕ) → t < size g → slice_index missing t ≡ arcs g t
  pub none : passed ≡ []
  pub few : places g < 2 ^ 64

-- a place is counted for the object that it holds
abbrev pub IsPlaceCounted : Graph → (at : ℕ) → (old new : List ℕ) → Type 0
IsPlaceCounted g at old new =
    ((holds g at ≡ None) × (new ≡ old)) ⊎ ((t : ℕ) × (holds g at ≡ Some t) × (t < size g) × (new ≡ slice_set old t (slice_index old t + 1)))

-- how often a number stands in a list
abbrev pub times : ℕ → List ℕ → ℕ
times t [] = 0
times t (x ∷ xs) = (if x == t then 1 else 0) + times t xs

-- how many numbers of a list are not 0
abbrev pub positives : List ℕ → ℕ
positives [] = 0
positives (x ∷ xs) = (if x == 0 then 0 else 1) + positives xs

-- a field of a member holds t: where it is not the first object, one place less is missing, and if then none is, it is a member
abbrev pub IsPass : (first t : ℕ) → (missing members passed missing' members' passed' : List ℕ) → Type 0
IsPass first t missing members passed missing' members' passed' =
    ((t ≡ first) × (missing' ≡ missing) × (members' ≡ members) × (passed' ≡ passed))
    ⊎ ((t ≢ first) × (missing' ≡ slice_set missing t (slice_index missing t - 1)) × (passed' ≡ passed ++ t ∷ [])
    × (((slice_index missing t - 1 ≡ 0) × (members' ≡ members ++ t ∷ [])) ⊎ ((slice_index missing t - 1 ≢ 0) × (members' ≡ members))))

-- what a place holds, a field of a member holds
abbrev pub IsPlacePassed : Graph → (first at : ℕ) → (missing members passed missing' members' passed' : List ℕ) → Type 0
IsPlacePassed g first at missing members passed missing' members' passed' =
    (((t : ℕ) → holds g at ≡ Some t → ⊥) × (missing' ≡ missing) × (members' ≡ members) × (passed' ≡ passed))
    ⊎ ((t : ℕ) × (holds g at ≡ Some t) × (t < size g) × IsPass first t missing members passed missing' members' passed')

-- The member at `at` is gone through as far as the place `place`; those before it are gone through
pub record IsPassing (g : Graph) (first at place : ℕ) (missing members passed : List ℕ) : Type 0 where
  pub few : places g < 2 ^ 64
  pub long : length missing ≡ size g
  pub itself : has first members ≡ true
  pub within : (i : ℕ) → has i members ≡ true → i < size g
  pub distinct : AreApart members
  pub noted : (t : ℕ) → 0 < times t passed → t < size g
  pub sums : (t : ℕ) → t < size g → slice_index missing t + times t passed ≡ arcs g t
  pub gone : ℕ → Bool
  pub gone_front : (i : ℕ) → i < length members → gone (slice_index members i) ≡ nat_lt i at
  pub gone_member : (j : ℕ) → gone j ≡ true → has j members ≡ true
  pub done : ℕ → Bool
  pub left : (t : ℕ) → t < size g → t ≢ first → slice_index missing t ≡ count_below (λ p. is_target (holds g p) t && not (done p)) (places g)
  pub own : (p : ℕ) → done p ≡ true → (j : ℕ) × ((gone j ≡ true) ⊎ ((j ≡ slice_index members at) × (p < place))) × IsFieldAt g j p × (has j members ≡ true)
  pub passes : (j p t : ℕ) → (gone j ≡ true) ⊎ ((j ≡ slice_index members at) × (p < place)) → IsFieldAt g j p → holds g p ≡ Some t → t ≢ first → done p ≡ true
  pub all : (t : ℕ) → t < size g → t ≢ first → slice_index missing t ≡ 0 → 0 < arcs g t → has t members ≡ true
  pub zero : (t : ℕ) → has t members ≡ true → t ≢ first → slice_index missing t ≡ 0
  pub least : (k : ℕ → Bool) → k first ≡ true → ((t : ℕ) → t < size g → IsHeldBy g (λ j. k j ≡ true) t → k t ≡ true) → (i : ℕ) → has i members ≡ true → k i ≡ true

-- the members before `at` are gone through, and no other
abbrev pub IsRetaining : Graph → (first at : ℕ) → (missing members passed : List ℕ) → Type 0
IsRetaining g first at missing members passed = IsPassing g first at 0 missing members passed
