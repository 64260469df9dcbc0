-- A walk over the entries of a map in rising order, one entry a step.
use Rattle.std.specs.Prelude.{◌≡◌, ℕ, ◌<◌, ◌≤◌, Option, Some, None, List, [], nat_le}
use Rattle.std.specs.List.{filter}
use Rattle.std.specs.Ordering.{nat_cmp}
use Rattle.std.specs.FinMap.{FinMap, entries}

-- the entries that a walk is past when it stands at a key, in rising order; at None it has not begun
abbrev pub entries_through : {V : Type 0} → FinMap nat_cmp V → Option ℕ → List (ℕ × V)
entries_through m None = []
entries_through m (Some key) = filter (λ e. nat_le e.0 key) (entries m)

-- f has nothing from one key up to another
abbrev pub IsNowhereFrom : {V : Type 0} → (ℕ → Option V) → ℕ → ℕ → Type 0
IsNowhereFrom f from end = (q : ℕ) → from ≤ q → q < end → f q ≡ None

-- the first thing that f has from a key on is the value at another
pub record IsFirstFrom {V : Type 0} (f : ℕ → Option V) (from key : ℕ) (value : V) : Type 0 where
  pub rises : from ≤ key
  pub there : f key ≡ Some value
  pub first : IsNowhereFrom f from key
