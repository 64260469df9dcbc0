-- Which leaked objects keep each other: those in a cycle of Arcs, which are never deallocated (std::sync::Arc, "Breaking cycles with
-- Weak"). The cycle of an object is its strongly connected component (graph theory).
use Rattle.std.specs.Prelude.{ℕ, ◌≡◌, ◌↔◌, ◌+◌, List, length, filter, Bool, true}
use Rattle.std.specs.FinMap.{keys}
use Rattle.ownership_model.specs.State.{State}
use Rattle.ownership_model.specs.Leaks.{IsLeaked}
use Rattle.retention_model.specs.declared.place.Place.{Place}
use Rattle.retention_model.specs.Places.{IsFieldOf}
use Rattle.retention_model.specs.Ways.{IsWay}

-- a way leads from the fields of p to o
abbrev pub Keeps : State → ℕ → ℕ → Type 0
Keeps m p o = (way : List Place) × IsWay m (IsFieldOf p) o way

-- a leaked object to which a way leads from its own fields
abbrev pub IsInCycle : State → ℕ → Type 0
IsInCycle m o = IsLeaked m o × Keeps m o o

-- both leaked, and each leads to the other
abbrev pub AreInOneCycle : State → ℕ → ℕ → Type 0
AreInOneCycle m o p = IsLeaked m o × IsLeaked m p × Keeps m o p × Keeps m p o

-- k tells the objects of the cycle of o
abbrev pub IsCycleOf : State → ℕ → (ℕ → Bool) → Type 0
IsCycleOf m o k = (p : ℕ) → (k p ≡ true) ↔ AreInOneCycle m o p

-- how many objects of a state a set has
abbrev pub count_of : State → (ℕ → Bool) → ℕ
count_of m k = length (filter k (keys m.objects))

-- a field of an object in a cycle
abbrev pub IsFieldInCycle : State → Place → Type 0
IsFieldInCycle m q = (o : ℕ) × IsInCycle m o × IsFieldOf o q
