-- Since when leaked objects have been so, by the losses of strong slots: by the last loss of the object, or of one that leads to it (profile of
-- this project). Objects and places go by their numbers in a graph.
use Rattle.std.specs.Prelude.{ℕ, ◌≡◌, ◌<◌, ◌⊎◌, List, [], ◌∷◌, length, Option, Some, None, Bool, true, false, is_some, slice_index_or}
use Rattle.retention.specs.declared.graph.Graph.{Graph}
use Rattle.retention.specs.declared.moves.Loss.{Loss}
use Rattle.retention.specs.Graph.{size, object_at, holds, IsFieldAt}

-- whether an object is marked
abbrev pub is_marked : List Bool → ℕ → Bool
is_marked marks i = slice_index_or marks i false

-- the date of an object, if it has one
abbrev pub date_at : List (Option ℕ) → ℕ → Option ℕ
date_at dates i = slice_index_or dates i None

-- fields of marked objects lead from j to i: both are the same, or a field of j holds an object from which they do
pub data LeadsOn (g : Graph) (marks : List Bool) : ℕ → ℕ → Type 0 where
  here : (j i : ℕ) → is_marked marks j ≡ true → j ≡ i → LeadsOn g marks j i
  on : (j p k i : ℕ) → is_marked marks j ≡ true → IsFieldAt g j p → holds g p ≡ Some k → LeadsOn g marks k i → LeadsOn g marks j i

-- the object with this number leads to i
abbrev pub LeadsTo : Graph → List Bool → ℕ → ℕ → Type 0
LeadsTo g marks i object = (j : ℕ) × (j < size g) × (object_at g j ≡ object) × LeadsOn g marks j i

-- the date is that of the last of these losses whose object is such; none where none is
abbrev pub IsDatedBy : (ℕ → Type 0) → List Loss → Option ℕ → Type 0
IsDatedBy Of [] date = date ≡ None
IsDatedBy Of (l ∷ ls) date =
    ((id : ℕ) × (date ≡ Some id) × IsDatedBy Of ls (Some id))
    ⊎ (IsDatedBy Of ls None × (((date ≡ Some l.id) × Of l.object) ⊎ ((date ≡ None) × (Of l.object → ⊥))))

-- each marked object is dated by the last loss of what leads to it
abbrev pub AreDated : Graph → List Bool → List Loss → List (Option ℕ) → Type 0
AreDated g marks losses dates = (i : ℕ) → i < size g → is_marked marks i ≡ true → IsDatedBy (LeadsTo g marks i) losses (date_at dates i)

-- what an object with a date leads to has one
abbrev pub IsClosed : Graph → List Bool → List (Option ℕ) → Type 0
IsClosed g marks dates = (j p k : ℕ) → is_some (date_at dates j) ≡ true → IsFieldAt g j p → holds g p ≡ Some k → is_marked marks k ≡ true → is_some (date_at dates k) ≡ true

-- the object x and all that it leads to have a date: the one that they had, or else this one
pub record IsDatedFrom (g : Graph) (marks : List Bool) (x id : ℕ) (old new : List (Option ℕ)) : Type 0 where
  pub long : length new ≡ length old
  pub closed : IsClosed g marks new
  pub each : (k : ℕ) → (date_at new k ≡ date_at old k) ⊎ ((date_at old k ≡ None) × (date_at new k ≡ Some id) × LeadsOn g marks x k)
  pub first : is_some (date_at new x) ≡ true

-- no two objects have one number
abbrev pub AreDistinct : Graph → Type 0
AreDistinct g = (i j : ℕ) → i < size g → j < size g → object_at g i ≡ object_at g j → i ≡ j
