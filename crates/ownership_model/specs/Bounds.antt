-- The limits of a state (profile of this project): which numbers handles, cells, objects and thread labels may have, and how
-- many fields a value may have. They bound the counts.
use Rattle.std.specs.Prelude.{ℕ, ◌+◌, ◌*◌, ◌≤◌, List, Option, Some, None, length}
use Rattle.std.specs.List.{AllByRecursion}
use Rattle.std.specs.FinMap.{get}
use Rattle.trace_types.specs.declared.slots.Slot.{Slot}
use Rattle.trace_types.specs.declared.slots.Holding.{Holding}
use Rattle.trace_types.specs.declared.slots.Holding.TheVariants as holding
use Rattle.trace_types.specs.declared.slots.Entry.{Entry}
use Rattle.trace_types.specs.declared.slots.Entry.TheVariants.{Alive, Husk}
use Rattle.trace_types.specs.declared.slots.Scoped.{Scoped}
use Rattle.trace_types.specs.declared.slots.Change.{Change}
use Rattle.trace_types.specs.declared.slots.Change.TheVariants.{SetHandle, EndHandle, SetCell, EndCell, SetField, Make, TurnHusk}
use Rattle.trace_types.specs.declared.limits.TheConstants.{MAX_NAME, MAX_ID, MAX_THREAD, MAX_FIELDS}
use Rattle.ownership_model.specs.State.{State}
use Rattle.ownership_model.specs.declared.plan.Plan.{Plan}
use Rattle.ownership_model.specs.declared.plan.Plan.TheVariants.{Skip, Act}

-- how many slots can stand at once: the fields of each handle's value, each cell, the fields of each object
abbrev pub max_slots : ℕ
max_slots = (MAX_NAME + 1) * (MAX_FIELDS + 1) + (MAX_ID + 1) * MAX_FIELDS

-- the fields of a value are within the limit
abbrev pub AreFew : List Slot → Type 0
AreFew fields = length fields ≤ MAX_FIELDS

-- so are those of a value outside any allocation
abbrev pub HoldingFits : Holding → Type 0
HoldingFits (holding.Slot s) = Unit {0}
HoldingFits (holding.Bare fields) = AreFew fields

-- and those of an object
abbrev pub EntryFits : Entry → Type 0
EntryFits (Alive fields) = AreFew fields
EntryFits Husk = Unit {0}

-- what stands at a handle, if anything does: its number and its fields are within the limits
abbrev pub HandleFits : ℕ → Option Holding → Type 0
HandleFits h None = Unit {0}
HandleFits h (Some x) = (h ≤ MAX_NAME) × HoldingFits x

-- what stands at a cell, if anything does: its number is within the limit
abbrev pub CellFits : ℕ → Option Slot → Type 0
CellFits c None = Unit {0}
CellFits c (Some s) = c ≤ MAX_NAME

-- what stands for an object, if anything does: its number and its fields are within the limits
abbrev pub ObjectFits : ℕ → Option Entry → Type 0
ObjectFits o None = Unit {0}
ObjectFits o (Some e) = (o ≤ MAX_ID) × EntryFits e

-- the labels of scopes are within the limit
abbrev pub LabelsFit : List Scoped → Type 0
LabelsFit scopes = AllByRecursion (λ s. s.label ≤ MAX_THREAD) scopes

-- all numbers and fields of a state are within the limits
pub record IsBounded (m : State) : Type 0 where
  pub handles : (h : ℕ) → HandleFits h (get m.handles h)
  pub cells : (c : ℕ) → CellFits c (get m.cells c)
  pub objects : (o : ℕ) → ObjectFits o (get m.objects o)
  pub labels : LabelsFit m.scopes

-- a change keeps the limits: what it sets is within them
abbrev pub ChangeFits : Change → Type 0
ChangeFits (SetHandle t h x) = (t ≤ MAX_THREAD) × ((h ≤ MAX_NAME) × HoldingFits x)
ChangeFits (EndHandle h) = Unit {0}
ChangeFits (SetCell c s) = c ≤ MAX_NAME
ChangeFits (EndCell c) = Unit {0}
ChangeFits (SetField o i s) = Unit {0}
ChangeFits (Make o fields) = (o ≤ MAX_ID) × AreFew fields
ChangeFits (TurnHusk o) = Unit {0}

-- so do all of these changes
abbrev pub ChangesFit : List Change → Type 0
ChangesFit cs = AllByRecursion ChangeFits cs

-- so do all changes of a plan
abbrev pub PlanFits : Plan → Type 0
PlanFits (Skip reason) = Unit {0}
PlanFits (Act answer changes event pending object) = ChangesFit changes
