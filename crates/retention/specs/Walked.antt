-- The ways in a graph, by the numbers of its places, the last place first (graph theory: a path; which of them is told is a profile of this
-- project).
use Rattle.std.specs.Prelude.{ℕ, ◌≡◌, ◌<◌, ◌≤◌, ◌==◌, ◌⊎◌, List, [], ◌∷◌, ◌++◌, length, map, reverse, Option, Some, None, Bool, true, false, slice_get, slice_index, slice_index_or, slice_set, if◌then◌else◌}
use Rattle.retention_model.specs.declared.place.Held.{Held}
use Rattle.retention.specs.declared.graph.Graph.{Graph}
use Rattle.retention.specs.declared.walk.Step.{Step}
use Rattle.retention.specs.declared.walk.Step.TheVariants.{Never, First, Further}
use Rattle.retention.specs.declared.walk.Walk.{Walk}
use Rattle.retention.specs.Graph.{size, held_at, holds, IsFieldAt, is_field_at}

-- A way leads to o by what places hold, from a place where it may begin: each place but the last in the list is a field of the object that the
-- next one in the list holds
abbrev pub LeadsBy : (ℕ → Option ℕ) → (ℕ → ℕ → Type 0) → (ℕ → Bool) → ℕ → List ℕ → Type 0
LeadsBy hold field from o [] = ⊥
LeadsBy hold field from o (p ∷ []) = (hold p ≡ Some o) × (from p ≡ true)
LeadsBy hold field from o (p ∷ q ∷ way) = (hold p ≡ Some o) × ((r : ℕ) × field r p × LeadsBy hold field from r (q ∷ way))

-- the first is shorter, or as long and before the second, place by place
abbrev pub Less : List ℕ → List ℕ → Type 0
Less [] [] = ⊥
Less [] (q ∷ other) = Unit {0}
Less (p ∷ way) [] = ⊥
Less (p ∷ way) (q ∷ other) = Less way other ⊎ ((way ≡ other) × (p < q))

-- the same, or before it
abbrev pub NoLater : List ℕ → List ℕ → Type 0
NoLater way other = (way ≡ other) ⊎ Less way other

-- the least way to o
abbrev pub IsLeastBy : (ℕ → Option ℕ) → (ℕ → ℕ → Type 0) → (ℕ → Bool) → ℕ → List ℕ → Type 0
IsLeastBy hold field from o way = LeadsBy hold field from o way × ((other : List ℕ) → LeadsBy hold field from o other → NoLater way other)

-- In a whole graph.

abbrev pub Leads : Graph → (ℕ → Bool) → ℕ → List ℕ → Type 0
Leads g from o way = LeadsBy (holds g) (IsFieldAt g) from o way

abbrev pub IsLeast : Graph → (ℕ → Bool) → ℕ → List ℕ → Type 0
IsLeast g from o way = IsLeastBy (holds g) (IsFieldAt g) from o way

-- the places of the least way, the first one first
abbrev pub IsToldWay : Graph → (ℕ → Bool) → ℕ → List Held → Type 0
IsToldWay g from o told = (way : List ℕ) × IsLeast g from o way × (told ≡ map (held_at g) (reverse way))

-- a way leads to o from the fields of i
abbrev pub Keeps : Graph → ℕ → ℕ → Type 0
Keeps g i o = (way : List ℕ) × Leads g (is_field_at g i) o way

-- What a walk keeps.

abbrev pub is_come : Step → Bool
is_come Never = false
is_come (First p) = true
is_come (Further p) = true

-- whether it came to an object
abbrev pub has_come : List Step → ℕ → Bool
has_come steps o = is_come (slice_index_or steps o Never)

-- coming by a step to what a place holds, unless it holds nothing, or the walk came to that before: the steps, and the objects that it came to
abbrev pub stepped : Option ℕ → List Step → Step → List Step
stepped None steps step = steps
stepped (Some t) steps step = if has_come steps t then steps else slice_set steps t step

abbrev pub joined : Option ℕ → List Step → List ℕ → List ℕ
joined None steps came = came
joined (Some t) steps came = if has_come steps t then came else came ++ t ∷ []

-- the way by which it came to an object
abbrev pub CameBy : (ℕ → ℕ → Type 0) → List Step → ℕ → List ℕ → Type 0
CameBy field steps o [] = ⊥
CameBy field steps o (p ∷ []) = slice_index_or steps o Never ≡ First p
CameBy field steps o (p ∷ q ∷ way) = (slice_index_or steps o Never ≡ Further p) × ((r : ℕ) × field r p × CameBy field steps r (q ∷ way))

-- A walk from these places, over what places hold: it came to each object to which a way leads, by its least way
pub record HasWalked (hold : ℕ → Option ℕ) (field : ℕ → ℕ → Type 0) (from : ℕ → Bool) (objects : ℕ) (steps : List Step) : Type 0 where
  pub long : length steps ≡ objects
  pub way : ℕ → List ℕ
  pub least : (o : ℕ) → has_come steps o ≡ true → IsLeastBy hold field from o (way o)
  pub all : (o : ℕ) (other : List ℕ) → LeadsBy hold field from o other → has_come steps o ≡ true
  pub came : (o : ℕ) → has_come steps o ≡ true → CameBy field steps o (way o)
  pub short : (o : ℕ) → has_come steps o ≡ true → length (way o) ≤ objects

-- a walk that has not begun
pub record IsFresh (objects : ℕ) (steps : List Step) (came : List ℕ) : Type 0 where
  pub long : length steps ≡ objects
  pub never : (o : ℕ) → has_come steps o ≡ false
  pub none : came ≡ []

-- each object that it came to is in the list of them
abbrev pub AreListed : List Step → List ℕ → Type 0
AreListed steps came = (o : ℕ) → has_come steps o ≡ true → (i : ℕ) × (i < length came) × (slice_index came i ≡ o)

-- a walk over a whole graph, from these places
abbrev pub IsWalkFrom : Graph → (ℕ → Bool) → Walk → Type 0
IsWalkFrom g from w = HasWalked (holds g) (IsFieldAt g) from (size g) w.steps.items

-- Within a part of the objects: those that have this entry. Where there are no entries, all objects are in one part.

abbrev pub is_in_part : Option ℕ → ℕ → Bool
is_in_part None part = true
is_in_part (Some other) part = other == part

abbrev pub within_part : List ℕ → ℕ → Option ℕ → Option ℕ
within_part parts part None = None
within_part parts part (Some t) = if is_in_part (slice_get parts t) part then Some t else None

-- the object of the part that a place holds
abbrev pub holds_in : Graph → List ℕ → ℕ → ℕ → Option ℕ
holds_in g parts part p = within_part parts part (holds g p)
