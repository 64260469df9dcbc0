-- Since which operation something has been so (profile of this project). What is told of the end of a trace is dated by the operation
-- that brought it about last: it was not so before that one, and has been so ever since.
use Rattle.std.specs.Prelude.{ℕ, ◌≡◌, ◌==◌, List, [], ◌∷◌, ◌++◌, Option, Some, None, Bool, true, false, if◌then◌else◌}
use Rattle.trace_types.specs.declared.slots.Slot.{Slot}
use Rattle.trace_types.specs.declared.slots.Slot.TheVariants.{Nothing, Strong, Weak, Dangling}
use Rattle.trace_types.specs.Operation.{Operation}
use Rattle.ownership_model.specs.State.{State}
use Rattle.ownership_model.specs.Step.{step, end_from}
use Rattle.retention_model.specs.declared.place.Place.{Place}
use Rattle.retention_model.specs.Places.{at}

-- The operation with this number is the one since which it has been so, of the operations of a trace from a state on: so it is after
-- that operation and after each later one, and not before it. So the operation is the least such.
pub record IsSince (IsSo : State → Type 0) (start : State) (ops : List Operation) (id : ℕ) : Type 0 where
  pub before : List Operation
  pub op : Operation
  pub later : List Operation
  pub split : ops ≡ before ++ op ∷ later
  pub number : id ≡ op.id
  pub not_before : IsSo (end_from start before) → ⊥
  pub ever_since : (some more : List Operation) → later ≡ some ++ more → IsSo (end_from start (before ++ op ∷ some))

-- whether both are the same slot
abbrev pub is_same_slot : Slot → Slot → Bool
is_same_slot Nothing Nothing = true
is_same_slot (Strong o) (Strong p) = o == p
is_same_slot (Weak o) (Weak p) = o == p
is_same_slot Dangling Dangling = true
is_same_slot _ _ = false

-- whether both are the same slot, or both are none
abbrev pub is_same : Option Slot → Option Slot → Bool
is_same None None = true
is_same (Some s) (Some t) = is_same_slot s t
is_same _ _ = false

-- since which operation a place holds what it does after one, by what it held before it, and since when: a slot that stands there
-- before and after keeps its date
abbrev pub dated : (before after : Option Slot) → (since id : ℕ) → ℕ
dated before after since id = if is_same before after then since else id

-- the same after each operation in turn
abbrev pub since_from : State → List Operation → Place → ℕ → ℕ
since_from m [] p since = since
since_from m (op ∷ ops) p since = since_from (step m op).state ops p (dated (at m p) (at (step m op).state p) since op.id)
