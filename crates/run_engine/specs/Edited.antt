-- The trace after a batch of edits (profile of this project).
use Rattle.std.specs.Prelude.{◌≡◌, ℕ, ◌+◌, ◌==◌, List, [], ◌∷◌, length, Option, Some, None, IfSome, option_map, if◌then◌else◌, Result, Ok, Err, nat_le, nat_lt, insert, remove, slice_set}
use Rattle.trace_types.specs.Operation.{Operation}
use Rattle.trace_types.specs.Trace.{place_of, is_taken}
use Rattle.trace_types.specs.declared.edits.Edit.{Edit}
use Rattle.trace_types.specs.declared.edits.Edit.TheVariants.{Insert, Remove, Change}
use Rattle.trace_types.specs.declared.limits.TheConstants.{MAX_OPS, MAX_EDITS}
use Rattle.run_engine.specs.declared.editing.faults.Refusal.{Refusal}
use Rattle.run_engine.specs.declared.editing.faults.Refusal.TheVariants.{NoSuchOp, IdTaken, TooMany, EmptyBatch, TooManyEdits}
use Rattle.run_engine.specs.declared.editing.faults.RunFault.{RunFault}
use Rattle.run_engine.specs.declared.editing.faults.RunFault.TheVariants as fault

-- where an operation goes that comes right after operation `after`, or at the front where that is 0
abbrev pub place_after : ℕ → List Operation → Option ℕ
place_after after ops = if after == 0 then Some 0 else option_map (λ i. i + 1) (place_of after ops)

-- the operations with one more at a place, where there is one
abbrev pub inserted : ℕ → List Operation → Operation → Option ℕ → Result (List Operation) Refusal
inserted k ops op None = Err (NoSuchOp k)
inserted k ops op (Some i) = if is_taken op.id ops then Err (IdTaken k) else (if nat_le MAX_OPS (length ops) then Err (TooMany k) else Ok (insert ops i op))

-- the operations without the one at a place
abbrev pub removed : ℕ → List Operation → Option ℕ → Result (List Operation) Refusal
removed k ops None = Err (NoSuchOp k)
removed k ops (Some i) = Ok (remove ops i)

-- the operations with another in the place of operation `id`, whose number it may have
abbrev pub changed : ℕ → List Operation → ℕ → Operation → Option ℕ → Result (List Operation) Refusal
changed k ops id op None = Err (NoSuchOp k)
changed k ops id op (Some i) = if op.id == id then Ok (slice_set ops i op) else (if is_taken op.id ops then Err (IdTaken k) else Ok (slice_set ops i op))

-- the operations after the edit with the index k, or its refusal
abbrev pub edited_one : ℕ → List Operation → Edit → Result (List Operation) Refusal
edited_one k ops (Insert after op) = inserted k ops op (place_after after ops)
edited_one k ops (Remove id) = removed k ops (place_of id ops)
edited_one k ops (Change id op) = changed k ops id op (place_of id ops)

-- what comes next, where nothing was refused
abbrev pub go_on : Result (List Operation) Refusal → (List Operation → Result (List Operation) Refusal) → Result (List Operation) Refusal
go_on (Ok ops) next = next ops
go_on (Err e) next = Err e

-- the edits from the index k on, each to the result of the one before it, or the first refusal
abbrev pub edits_from : ℕ → List Operation → List Edit → Result (List Operation) Refusal
edits_from k ops [] = Ok ops
edits_from k ops (edit ∷ edits) = go_on (edited_one k ops edit) (λ next. edits_from (k + 1) next edits)

-- the trace after a batch of 1 to `MAX_EDITS` edits, or why the batch is refused
abbrev pub edited_by : List Operation → List Edit → Result (List Operation) Refusal
edited_by ops batch = if length batch == 0 then Err EmptyBatch else (if nat_lt MAX_EDITS (length batch) then Err TooManyEdits else edits_from 0 ops batch)

-- the refusal that a fault tells; none where memory ran out
abbrev pub refusal_of : RunFault → Option Refusal
refusal_of (fault.NoSuchOp k) = Some (NoSuchOp k)
refusal_of (fault.IdTaken k) = Some (IdTaken k)
refusal_of (fault.TooMany k) = Some (TooMany k)
refusal_of fault.EmptyBatch = Some EmptyBatch
refusal_of fault.TooManyEdits = Some TooManyEdits
refusal_of fault.Memory = None

-- a fault of edits tells their refusal, or that memory ran out
abbrev pub IsFaultOf : Result (List Operation) Refusal → RunFault → Type 0
IsFaultOf edited fault = IfSome (refusal_of fault) (λ why. edited ≡ Err why)
