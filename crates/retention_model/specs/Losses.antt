-- Which operation is the last by which an object, or one that leads to it at the end of a trace, lost a strong slot: by that one a leaked
-- object was leaked (profile of this project). So what is told of all leaked objects is found by one walk over the losses, the last first.
use Rattle.std.specs.Prelude.{ℕ, ◌≡◌, ◌⊎◌, List, [], ◌∷◌, ◌++◌, Some, false}
use Rattle.trace_types.specs.declared.slots.Slot.TheVariants.{Strong}
use Rattle.trace_types.specs.Operation.{Operation}
use Rattle.ownership_model.specs.State.{State}
use Rattle.ownership_model.specs.Step.{step, end_from}
use Rattle.retention_model.specs.declared.place.Place.{Place}
use Rattle.retention_model.specs.Places.{at}
use Rattle.retention_model.specs.Since.{is_same}
use Rattle.retention_model.specs.Cycles.{Keeps}

-- by the operation a place gives up a strong slot of the object
abbrev pub Loses : State → Operation → ℕ → Type 0
Loses m op o = (p : Place) × (at m p ≡ Some (Strong o)) × (is_same (at m p) (at (step m op).state p) ≡ false)

-- the object itself, or one that leads to it
abbrev pub Backs : State → ℕ → ℕ → Type 0
Backs m o a = (a ≡ o) ⊎ Keeps m a o

-- no object of these loses a strong slot over the operations
abbrev pub LoseNone : (ℕ → Type 0) → State → List Operation → Type 0
LoseNone Of m ops = (some more : List Operation) (op : Operation) (a : ℕ) → ops ≡ some ++ op ∷ more → Of a → Loses (end_from m some) op a → ⊥

-- the operation with this number is the last by which o, or one that leads to it at the end, lost a strong slot
pub record IsLastLoss (start : State) (ops : List Operation) (o id : ℕ) : Type 0 where
  pub before : List Operation
  pub op : Operation
  pub later : List Operation
  pub split : ops ≡ before ++ op ∷ later
  pub number : id ≡ op.id
  pub object : ℕ
  pub backs : Backs (end_from start ops) o object
  pub lost : Loses (end_from start before) op object
  pub none_later : LoseNone (Backs (end_from start ops) o) (step (end_from start before) op).state later
