-- The laws of cycles, each the contract of a function of `laws` (profile of this project). Both are of every sound state, as each state
-- of a replay is.
use Rattle.std.specs.Prelude.{ℕ, ◌≡◌, ◌⊎◌, List, [], Bool, true}
use Rattle.std.specs.FinMap.{get}
use Rattle.ownership_model.specs.State.{State, is_alive, IsSound}
use Rattle.ownership_model.specs.declared.link.Link.TheVariants.{StrongOnly}
use Rattle.ownership_model.specs.Reach.{Reaches}
use Rattle.retention_model.specs.declared.place.Place.{Place}
use Rattle.retention_model.specs.Ways.{IsWay}
use Rattle.retention_model.specs.Cycles.{IsInCycle, AreInOneCycle, IsFieldInCycle}
use Rattle.retention_model.specs.Retained.{IsRetained}

-- Each object that is alive is reached, or in a cycle, or a way leads to it from the fields of objects in cycles
abbrev pub EachIsExplained : Type 0
EachIsExplained = (m : State) (o : ℕ) → IsSound m [] → is_alive (get m.objects o) ≡ true
    → Reaches StrongOnly m o ⊎ IsInCycle m o ⊎ ((way : List Place) × IsWay m (IsFieldInCycle m) o way)

-- Of two objects, each in a cycle and not both in one, what the one retains and what the other retains have no object in common
abbrev pub CyclesRetainApart : Type 0
CyclesRetainApart = (m : State) (o p : ℕ) (x y : ℕ → Bool) → IsSound m [] → IsInCycle m o → IsInCycle m p → (AreInOneCycle m o p → ⊥)
    → IsRetained m o x → IsRetained m p y → (q : ℕ) → x q ≡ true → y q ≡ true → ⊥
