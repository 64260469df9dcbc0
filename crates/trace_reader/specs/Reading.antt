-- Which trace a text is, or which fault its first faulty line has (RFC 8259, as serde_json::Value reads it; limits and faults
-- are a profile of this project).
use Rattle.std.specs.Prelude.{◌≤◌, ◌==◌, ℕ, suc, List, [], ◌∷◌, length, codes, Bool, ◌||◌, nat_lt, if◌then◌else◌, Option, Some, None, ok_or, Result, Ok, Err}
use Rattle.std.specs.List.{list_all, slice_split}
use Rattle.std.specs.Str.{is_utf8}
use Rattle.serde_json.specs.Data.{Data, Members}
use Rattle.serde_json.specs.Read.{read}
use Rattle.serde_json.specs.Find.{as_object}
use Rattle.trace_types.specs.Names.{name_of}
use Rattle.trace_types.specs.Operation.{Operation}
use Rattle.trace_types.specs.Trace.{pushed}
use Rattle.trace_types.specs.declared.kinds.Kind.{Kind}
use Rattle.trace_types.specs.declared.limits.TheConstants.{MAX_ID, MAX_THREAD, MAX_LINE}
use Rattle.trace_types.specs.declared.names.OpName.{OpName}
use Rattle.trace_types.specs.declared.ops.TraceFault.{TraceFault}
use Rattle.trace_types.specs.declared.ops.TraceFault.TheVariants as faults
use Rattle.trace_reader.specs.declared.fault.LineCause.{LineCause}
use Rattle.trace_reader.specs.declared.fault.LineCause.TheVariants.{LineTooLong, NotJson, NotObject, UnknownOp, OutOfRange, IdTaken, TooMany, Memory}
use Rattle.trace_reader.specs.declared.fault.LineFault.{LineFault}
use Rattle.trace_reader.specs.Members.{◌>>=◌, number_at, text_at}
use Rattle.trace_reader.specs.Kinds.{kind_of}

-- ---- an operation

-- what the operation of that name does; a text that names none is `UnknownOp`
abbrev pub kind_if_named : Option OpName → Data → Result Kind LineCause
kind_if_named None d = Err UnknownOp
kind_if_named (Some name) d = kind_of name d

-- the member `op`, and then the members of the operation that it names
unfoldable pub kind_at : Data → Result Kind LineCause
kind_at d = do
  name ← text_at (codes "op") d
  kind_if_named (name_of name) d

-- the members `id`, `t`, `op` and then those of the operation
unfoldable pub members_of_op : Data → Result Operation LineCause
members_of_op d = do
  id ← number_at (codes "id") 1 MAX_ID d
  thread ← number_at (codes "t") 0 MAX_THREAD d
  kind ← kind_at d
  Ok (record { id = id; thread = thread; kind = kind })

-- the reading of a value that is an object; another value has this cause as its fault
abbrev pub on_object : {A : Type 0} → LineCause → Option Members → Result A LineCause → Result A LineCause
on_object cause None reading = Err cause
on_object cause (Some ms) reading = reading

-- the operation that a value is, or its first fault
unfoldable pub read_op : Data → Result Operation LineCause
read_op d = on_object NotObject (as_object d) (members_of_op d)

-- ---- a line

-- the value of a line, as serde_json reads it
unfoldable pub json_of : List ℕ → Result Data LineCause
json_of line = if is_utf8 line then ok_or (read line) NotJson else Err NotJson

-- spaces, tabs and carriage returns alone
abbrev pub is_blank : List ℕ → Bool
is_blank line = list_all (λ b. b == 32 || b == 9 || b == 13) line

-- the cause of a line whose operation the trace refuses
abbrev pub push_cause_of : TraceFault → LineCause
push_cause_of faults.IdTaken = IdTaken
push_cause_of faults.TooMany = TooMany
push_cause_of faults.BadOp = OutOfRange
push_cause_of faults.Memory = Memory

-- what a push gives, as the reading of a line: a refusal becomes its cause
abbrev pub push_cause : {A : Type 0} → Result A TraceFault → Result A LineCause
push_cause (Ok x) = Ok x
push_cause (Err fault) = Err (push_cause_of fault)

-- the trace after a line
unfoldable pub after_line : List Operation → List ℕ → Result (List Operation) LineCause
after_line ops line = if nat_lt MAX_LINE (length line) then Err LineTooLong else (if is_blank line then Ok ops else (json_of line >>= read_op >>= λ op. push_cause (pushed ops op)))

-- ---- a text

-- the lines, cut at newlines. What comes after the last newline may be empty, and is then a blank line
abbrev pub lines_of : List ℕ → List (List ℕ)
lines_of bytes = slice_split (λ b. b == 10) bytes

-- the reading of line n: its cause becomes a fault with the line's number
abbrev pub at_line : {A : Type 0} → ℕ → Result A LineCause → Result A LineFault
at_line n (Ok x) = Ok x
at_line n (Err cause) = Err (record { line = n; cause = cause })

-- the trace after these lines, the first of which has number n
abbrev pub after_lines : List Operation → ℕ → List (List ℕ) → Result (List Operation) LineFault
after_lines ops n [] = Ok ops
after_lines ops n (line ∷ lines) = at_line n (after_line ops line) >>= λ after. after_lines after (suc n) lines

-- the trace that a text is, or its first fault
abbrev pub read_trace : List ℕ → Result (List Operation) LineFault
read_trace bytes = after_lines [] 1 (lines_of bytes)

-- no fault of the reading stands before line n
abbrev pub IsReadUpTo : {A : Type 0} → ℕ → Result A LineFault → Type 0
IsReadUpTo n (Ok x) = Unit {0}
IsReadUpTo n (Err fault) = n ≤ fault.line
