-- What is told of an object that is there at the end of a trace (profile of this project).
use Rattle.std.specs.Prelude.{ℕ, ◌≡◌, ◌==◌, List, map, Option, Some, None, Bool, true, false, unwrap_or}
use Rattle.std.specs.FinMap.{get}
use Rattle.trace_types.specs.declared.slots.Slot.{Slot}
use Rattle.trace_types.specs.declared.slots.Slot.TheVariants.{Nothing, Strong, Weak}
use Rattle.trace_types.specs.Operation.{Operation}
use Rattle.ownership_model.specs.State.{State, nothing_held, is_alive}
use Rattle.ownership_model.specs.Release.{is_husk}
use Rattle.ownership_model.specs.Leaks.{IsLeaked}
use Rattle.ownership_model.specs.declared.link.Link.TheVariants.{StrongOnly}
use Rattle.ownership_model.specs.Reach.{Reaches}
use Rattle.retention_model.specs.declared.place.Place.{Place}
use Rattle.retention_model.specs.declared.place.Held.{Held}
use Rattle.retention_model.specs.Places.{at, IsRoot, IsFieldOf, places_with}
use Rattle.retention_model.specs.Since.{since_from}
use Rattle.retention_model.specs.Ways.{IsLeastWay}
use Rattle.retention_model.specs.Cycles.{IsInCycle, IsCycleOf, IsFieldInCycle, count_of}
use Rattle.retention_model.specs.LeakedSince.{IsLeakedSince}
use Rattle.retention_model.specs.Retained.{IsRetained}
use Rattle.retention_model.specs.declared.account.Account.{Account}
use Rattle.retention_model.specs.declared.account.Why.{Why}
use Rattle.retention_model.specs.declared.account.Why.TheVariants.{Husk, Reached, InCycle, Under}

-- whether a slot holds the object
abbrev pub is_strong_to : ℕ → Option Slot → Bool
is_strong_to o (Some (Strong p)) = p == o
is_strong_to o s = false

-- whether it keeps no more than the object's allocation
abbrev pub is_weak_to : ℕ → Option Slot → Bool
is_weak_to o (Some (Weak p)) = p == o
is_weak_to o s = false

-- The operations are those of a whole trace, and m is the state at their end.
module _ (ops : List Operation) (m : State) where
  -- a place of m, with its slot and its date
  abbrev pub held_of : Place → Held
  held_of p = record { place = p; slot = unwrap_or (at m p) Nothing; since = since_from nothing_held ops p 0 }

  -- the least way to the object from such places, each with its slot and its date
  abbrev pub IsToldWay : (Place → Type 0) → ℕ → List Held → Type 0
  IsToldWay From o way = (places : List Place) × IsLeastWay m From o places × (way ≡ map held_of places)

  -- why the object is there
  abbrev pub IsWhy : ℕ → Why → Type 0
  IsWhy o Husk = is_husk (get m.objects o) ≡ true
  IsWhy o (Reached way) = (is_alive (get m.objects o) ≡ true) × Reaches StrongOnly m o × IsToldWay IsRoot o way.items
  IsWhy o (InCycle since way size) =
      IsInCycle m o × IsLeakedSince ops o since × IsToldWay (IsFieldOf o) o way.items × ((k : ℕ → Bool) × IsCycleOf m o k × (size ≡ count_of m k))
  IsWhy o (Under since way) = IsLeaked m o × (IsInCycle m o → ⊥) × IsLeakedSince ops o since × IsToldWay (IsFieldInCycle m) o way.items

  -- how many objects it retains, where it is alive
  abbrev pub RetainsSo : ℕ → Option ℕ → Type 0
  RetainsSo o None = is_alive (get m.objects o) ≡ false
  RetainsSo o (Some count) = (is_alive (get m.objects o) ≡ true) × ((x : ℕ → Bool) × IsRetained m o x × (count ≡ count_of m x))

  -- what holds it, what keeps no more than its allocation, why it is there, and what it retains
  pub record IsAccount (o : ℕ) (a : Account) : Type 0 where
    pub held : a.held.items ≡ map held_of (places_with (is_strong_to o) m)
    pub kept : a.kept.items ≡ map held_of (places_with (is_weak_to o) m)
    pub why : IsWhy o a.why
    pub retained : RetainsSo o a.retained
