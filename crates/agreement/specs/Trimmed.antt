-- What of remains differs: an object that is the same on both sides need not be exchanged. Only the first two are for callers.
use Rattle.std.specs.Prelude.{ℕ, ◌≡◌, ◌&&◌, Bool, None, not, is_some}
use Rattle.std.specs.FinMap.{get, empty, remove}
use Rattle.ownership_model.specs.Patch.{Remains, entry_of, AreLess}

-- what comes at the number is what is to go
abbrev pub IsSameAt : Remains → ℕ → Type 0
IsSameAt x q = entry_of (get x.added q) ≡ entry_of (get x.removed q)

-- nothing differs
abbrev pub AreTheSame : Remains → Type 0
AreTheSame x = (q : ℕ) → IsSameAt x q

-- nothing goes, and nothing comes
abbrev pub nothing : Remains
nothing = record { removed = empty; added = empty }

-- one number less
abbrev pub without_number : Remains → ℕ → Remains
without_number x q = record { removed = remove x.removed q; added = remove x.added q }

-- whether it is to go in x, and not in z
abbrev pub is_left_out : (x z : Remains) → ℕ → Bool
is_left_out x z q = is_some (get x.removed q) && not (is_some (get z.removed q))

-- z is x without all that is the same on both sides
pub record IsTrimmed (x z : Remains) : Type 0 where
  pub less : AreLess (is_left_out x z) x z
  pub all : (q : ℕ) → IsSameAt x q → get z.removed q ≡ None
