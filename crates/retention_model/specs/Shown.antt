-- What a picture of the end of a trace shows (profile of this project).
use Rattle.std.specs.Prelude.{ℕ, ◌≡◌, ◌↔◌, ◌⊎◌, Option, Some, None, Bool, true}
use Rattle.std.specs.FinMap.{get}
use Rattle.trace_types.specs.declared.slots.Slot.TheVariants.{Weak}
use Rattle.ownership_model.specs.State.{State}
use Rattle.ownership_model.specs.Leaks.{IsLeaked}
use Rattle.ownership_model.specs.Release.{is_husk}
use Rattle.retention_model.specs.declared.place.Place.TheVariants.{Field}
use Rattle.retention_model.specs.Places.{at}
use Rattle.retention_model.specs.Cycles.{Keeps}

-- what is shown where no object is given: what leaked, and husks
abbrev pub IsOfInterest : State → ℕ → Type 0
IsOfInterest m o = IsLeaked m o ⊎ (is_husk (get m.objects o) ≡ true)

-- a Weak in a field of p names o
abbrev pub HoldsWeakly : State → ℕ → ℕ → Type 0
HoldsWeakly m p o = (i : ℕ) × (at m (Field p i) ≡ Some (Weak o))

-- asked for, or with a Weak to what is asked for
abbrev pub IsNear : State → (ℕ → Type 0) → ℕ → Type 0
IsNear m Asked p = Asked p ⊎ ((o : ℕ) × Asked o × HoldsWeakly m p o)

-- shown are these, and each object from a field of which a way leads to one of them
abbrev pub IsShown : State → (ℕ → Type 0) → ℕ → Type 0
IsShown m Asked p = IsNear m Asked p ⊎ ((o : ℕ) × IsNear m Asked o × Keeps m p o)
