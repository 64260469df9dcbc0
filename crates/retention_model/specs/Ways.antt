-- The ways to an object: paths of strong slots, each in a field of the object that the one before holds (graph theory: a path; only an
-- Arc keeps a value, std::sync::Arc), and which of them is told (profile of this project).
use Rattle.std.specs.Prelude.{ℕ, ◌≡◌, ◌<◌, ◌⊎◌, List, [], ◌∷◌, length, Option, Some}
use Rattle.trace_types.specs.declared.slots.Slot.TheVariants.{Strong}
use Rattle.ownership_model.specs.State.{State}
use Rattle.retention_model.specs.declared.place.Place.{Place}
use Rattle.retention_model.specs.Places.{at, IsFieldOf, Precedes}

-- the places hold objects in turn, each of them a field of the object that the one before holds, and the last one holds o
abbrev pub LeadsTo : State → ℕ → List Place → Type 0
LeadsTo m o [] = ⊥
LeadsTo m o (p ∷ []) = at m p ≡ Some (Strong o)
LeadsTo m o (p ∷ q ∷ way) = ((r : ℕ) × (at m p ≡ Some (Strong r)) × IsFieldOf r q) × LeadsTo m o (q ∷ way)

-- its first place is one of these
abbrev pub BeginsIn : (Place → Type 0) → List Place → Type 0
BeginsIn From [] = ⊥
BeginsIn From (p ∷ way) = From p

-- a way to the object from these places
abbrev pub IsWay : State → (Place → Type 0) → ℕ → List Place → Type 0
IsWay m From o way = BeginsIn From way × LeadsTo m o way

-- the first stands before the second or is the same, place by place, in the order of places
abbrev pub IsNoLater : List Place → List Place → Type 0
IsNoLater [] other = Unit {0}
IsNoLater (p ∷ way) [] = ⊥
IsNoLater (p ∷ way) (q ∷ other) = Precedes p q ⊎ ((p ≡ q) × IsNoLater way other)

-- the shortest way, and of these the first
pub record IsLeastWay (m : State) (From : Place → Type 0) (o : ℕ) (way : List Place) : Type 0 where
  pub is_way : IsWay m From o way
  pub least : (other : List Place) → IsWay m From o other → (length way < length other) ⊎ ((length way ≡ length other) × IsNoLater way other)
