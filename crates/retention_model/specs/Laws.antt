-- The laws of what is told of the objects of a state, each the contract of a function of `laws` (profile of this project).
use Rattle.std.specs.Prelude.{ℕ, ◌≡◌, ◌↔◌, ◌⊎◌, List, Option, Some, None, Bool, true, false}
use Rattle.std.specs.FinMap.{get}
use Rattle.trace_types.specs.declared.slots.Slot.{Slot}
use Rattle.trace_types.specs.Operation.{Operation}
use Rattle.ownership_model.specs.State.{State, nothing_held, is_alive, IsSound}
use Rattle.ownership_model.specs.declared.plan.Plan.{Plan}
use Rattle.ownership_model.specs.Step.{carried_out, end_from, AreNew}
use Rattle.ownership_model.specs.declared.link.Link.TheVariants.{StrongOnly}
use Rattle.ownership_model.specs.Reach.{Reaches}
use Rattle.ownership_model.specs.Falling.{IsLeastClosed}
use Rattle.ownership_model.specs.Leaks.{IsLeaked}
use Rattle.retention_model.specs.declared.place.Place.{Place}
use Rattle.retention_model.specs.Places.{at, IsRoot}
use Rattle.retention_model.specs.Since.{IsSince, since_from}
use Rattle.retention_model.specs.Looked.{is_looked_at}
use Rattle.retention_model.specs.Ways.{IsWay}
use Rattle.retention_model.specs.Cycles.{Keeps, IsInCycle, AreInOneCycle}
use Rattle.retention_model.specs.LeakedSince.{IsLeakedSince}
use Rattle.retention_model.specs.Losses.{Backs, LoseNone, IsLastLoss}
use Rattle.retention_model.specs.Retained.{IsRetained, IsWithout}

-- The fold over the operations tells the least operation since which the place holds its slot: for a place that holds one in the end,
-- and at the start none or another
abbrev pub SinceIsFold : Type 0
SinceIsFold = (start : State) (ops : List Operation) (p : Place) (s : Slot) (old : ℕ) → at (end_from start ops) p ≡ Some s → (at start p ≡ Some s → ⊥)
    → IsSince (λ m. at m p ≡ Some s) start ops (since_from start ops p old)

-- A place without a slot at the start of a trace is any
abbrev pub NothingStands : Type 0
NothingStands = (p : Place) → at nothing_held p ≡ None

-- What stands at a place that isn't looked at is as before the operation
abbrev pub OthersStay : Type 0
OthersStay = (m : State) (id : ℕ) (plan : Plan) (p : Place) → is_looked_at p plan (carried_out m id plan).outcome.events ≡ false
    → at (carried_out m id plan).state p ≡ at m p

-- What is reached is what a way leads to from handles and cells
abbrev pub ReachedByWays : Type 0
ReachedByWays = (m : State) (o : ℕ) → Reaches StrongOnly m o ↔ ((way : List Place) × IsWay m IsRoot o way)

-- What an object that is alive retains is what falls once all strong slots of it are dropped: the objects that a release then destroys
abbrev pub RetainedFalls : Type 0
RetainedFalls = (m n : State) (o : ℕ) (x : ℕ → Bool) → is_alive (get m.objects o) ≡ true → IsWithout m n o → IsRetained m o x ↔ IsLeastClosed n x

-- A leaked object has leaked since the last operation by which it, or one that leads to it at the end, lost a strong slot
abbrev pub LastLossTells : Type 0
LastLossTells = (ops : List Operation) → AreNew nothing_held ops → (o id : ℕ) → IsLeaked (end_from nothing_held ops) o → IsLastLoss nothing_held ops o id → IsLeakedSince ops o id

-- and there is such an operation
abbrev pub SomeSlotWasLost : Type 0
SomeSlotWasLost = (ops : List Operation) → AreNew nothing_held ops → (o : ℕ) → IsLeaked (end_from nothing_held ops) o → LoseNone (Backs (end_from nothing_held ops) o) nothing_held ops → ⊥
