-- How objects get their dates, one after another (profile of this project): the steps of a search.
use Rattle.std.specs.Prelude.{ℕ, ◌≡◌, ◌+◌, ◌<◌, ◌≤◌, ◌⊎◌, List, [], ◌∷◌, ◌++◌, length, Option, Some, None, Bool, true, is_some, is_none, slice_set, if◌then◌else◌}
use Rattle.ownership_model.specs.Reach.{has}
use Rattle.retention.specs.declared.graph.Graph.{Graph}
use Rattle.retention.specs.Graph.{size, holds, IsFieldAt}
use Rattle.retention.specs.Dating.{is_marked, date_at, LeadsOn}

-- how many have none
abbrev pub undated : List (Option ℕ) → ℕ
undated [] = 0
undated (d ∷ ds) = (if is_none d then 1 else 0) + undated ds

-- an object gets a date, where it has none, and then waits
abbrev pub IsDate : (k id : ℕ) → (old new : List (Option ℕ)) → (before after : List ℕ) → Type 0
IsDate k id old new before after =
    ((is_some (date_at old k) ≡ true) × (new ≡ old) × (after ≡ before))
    ⊎ ((date_at old k ≡ None) × (new ≡ slice_set old k (Some id)) × (after ≡ before ++ k ∷ []))

-- what a place holds gets one, where it is marked
abbrev pub IsPlaceDated : Graph → List Bool → (at id : ℕ) → (old new : List (Option ℕ)) → (before after : List ℕ) → Type 0
IsPlaceDated g marks at id old new before after =
    (((k : ℕ) → holds g at ≡ Some k → is_marked marks k ≡ true → ⊥) × (new ≡ old) × (after ≡ before))
    ⊎ ((t : ℕ) × (holds g at ≡ Some t) × (is_marked marks t ≡ true) × (t < length old) × IsDate t id old new before after)

-- a field of the object j in front of the place `at` holds k
abbrev pub IsTarget : Graph → List Bool → (j at k : ℕ) → Type 0
IsTarget g marks j at k = (p : ℕ) × (p < at) × IsFieldAt g j p × (holds g p ≡ Some k) × (is_marked marks k ≡ true)

-- what the fields of j in front of a place hold has a date, and what of this had none waits
pub record AreDatedBefore (g : Graph) (marks : List Bool) (j id : ℕ) (old new : List (Option ℕ)) (before after : List ℕ) (at : ℕ) : Type 0 where
  pub long : length new ≡ length old
  pub each : (k : ℕ) → (date_at new k ≡ date_at old k) ⊎ ((date_at old k ≡ None) × (date_at new k ≡ Some id) × IsTarget g marks j at k × (has k after ≡ true))
  pub kept : (k : ℕ) → has k before ≡ true → has k after ≡ true
  pub only : (k : ℕ) → has k after ≡ true → (has k before ≡ true) ⊎ IsTarget g marks j at k
  pub done : (k : ℕ) → IsTarget g marks j at k → is_some (date_at new k) ≡ true
  pub work : undated new + undated new + length after ≤ undated old + undated old + length before

-- A search from x on: what has a date leads to what has one, but for what waits
pub record IsDating (g : Graph) (marks : List Bool) (x id : ℕ) (old new : List (Option ℕ)) (todo : List ℕ) : Type 0 where
  pub long : length new ≡ length old
  pub open' : (j p k : ℕ) → is_some (date_at new j) ≡ true → IsFieldAt g j p → holds g p ≡ Some k → is_marked marks k ≡ true
      → (is_some (date_at new k) ≡ true) ⊎ (has j todo ≡ true)
  pub each : (k : ℕ) → (date_at new k ≡ date_at old k) ⊎ ((date_at old k ≡ None) × (date_at new k ≡ Some id) × LeadsOn g marks x k)
  pub first : is_some (date_at new x) ≡ true
  pub waiting : (k : ℕ) → has k todo ≡ true → (k < size g) × LeadsOn g marks x k
