-- The lines of a report: each operation's outcome under the operation's name (profile of this project).
use Rattle.std.specs.Prelude.{List, [], ◌∷◌, Bool, true, false}
use Rattle.trace_types.specs.declared.names.OpName.{OpName}
use Rattle.trace_types.specs.declared.outcomes.Outcome.{Outcome}
use Rattle.trace_types.specs.declared.outcomes.Verdict.{Verdict}
use Rattle.trace_types.specs.declared.outcomes.Verdict.TheVariants.{Did, Skipped}
use Rattle.trace_types.specs.Operation.{Operation}
use Rattle.trace_types.specs.Names.{name_of_kind}

-- an operation's name and what it did
pub record Line : Type 0 where
  pub name : OpName
  pub outcome : Outcome

-- the outcome of an operation, under the operation's name
abbrev pub line_of : Operation → Outcome → Line
line_of op outcome = record { name = name_of_kind op.kind; outcome = outcome }

-- the lines of all operations, in the order of the trace
abbrev pub lines_of : List Operation → List Outcome → List Line
lines_of [] outcomes = []
lines_of (op ∷ ops) [] = []
lines_of (op ∷ ops) (outcome ∷ outcomes) = line_of op outcome ∷ lines_of ops outcomes

-- whether the operation was skipped
abbrev pub is_skipped : Verdict → Bool
is_skipped (Did answer) = false
is_skipped (Skipped reason) = true

-- whether the operation of this line was skipped: the total counts such lines
abbrev pub is_skipped_line : Line → Bool
is_skipped_line l = is_skipped l.outcome.verdict
