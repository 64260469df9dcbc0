-- How a program asks the questions of the table: a row ends with its plan, or early with a reason. Of want of memory nothing is
-- said (profile of this project).
use Rattle.std.specs.Prelude.{ℕ, ◌≡◌, List, Option, Result, Ok, Err}
use Rattle.std.specs.Borrow.{Bor}
use Rattle.trace_types.specs.declared.kinds.Kind.{Kind}
use Rattle.trace_types.specs.declared.slots.Slot.{Slot}
use Rattle.ownership_model.specs.State.{State}
use Rattle.ownership_model.specs.View.{view_of}
use Rattle.ownership_model.specs.Table.{row_of}
use Rattle.ownership_model.specs.declared.plan.Plan.{Plan}
use Rattle.ownership_model.specs.declared.plan.Plan.TheVariants.{Skip}
use Rattle.ownership_model.specs.declared.plan.Stop.{Stop}
use Rattle.ownership_model.specs.declared.plan.Stop.TheVariants as stop
use Rattle.ownership_model.specs.declared.questions.Fields.{Fields}

-- what a question of the table finds, for whatever rest of the row, or its reason
abbrev pub Asks : {X : Type 0} → Result X Stop → ((X → Plan) → Plan) → Type 0
Asks {X} (Ok x) question = (rest : X → Plan) → question rest ≡ rest x
Asks {X} (Err (stop.Skip reason)) question = (rest : X → Plan) → question rest ≡ Skip reason
Asks (Err stop.Memory) question = Unit {0}

-- as Asks, of a question that finds two things
abbrev pub AsksBoth : {X Y : Type 0} → Result (X × Y) Stop → ((X → Y → Plan) → Plan) → Type 0
AsksBoth {X} {Y} (Ok p) question = (rest : X → Y → Plan) → question rest ≡ rest p.0 p.1
AsksBoth {X} {Y} (Err (stop.Skip reason)) question = (rest : X → Y → Plan) → question rest ≡ Skip reason
AsksBoth (Err stop.Memory) question = Unit {0}

-- as Asks, of a question that finds nothing
abbrev pub Allows : {X : Type 0} → Result X Stop → (Plan → Plan) → Type 0
Allows (Ok x) question = (rest : Plan) → question rest ≡ rest
Allows (Err (stop.Skip reason)) question = (rest : Plan) → question rest ≡ Skip reason
Allows (Err stop.Memory) question = Unit {0}

-- what a reference that was found refers to
abbrev pub found : {X : Type 0} → Result (Bor X) Stop → Result X Stop
found (Ok x) = Ok x.now
found (Err e) = Err e

-- the owner and the fields that were found
abbrev pub found_fields : Result Fields Stop → Result (Option ℕ × List Slot) Stop
found_fields (Ok f) = Ok (f.owner, f.slots.now)
found_fields (Err e) = Err e

-- the plan, or the reason
abbrev pub Tells : Result Plan Stop → Plan → Type 0
Tells (Ok plan) row = plan ≡ row
Tells (Err (stop.Skip reason)) row = Skip reason ≡ row
Tells (Err stop.Memory) row = Unit {0}

-- the row of the table, at what an operation of this label and kind reads
abbrev pub row_in : State → ℕ → ℕ → Kind → Plan
row_in m t id k = row_of t id k (view_of m t k)
