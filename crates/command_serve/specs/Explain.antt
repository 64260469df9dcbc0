-- What `explain` writes for an input.
use Rattle.std.specs.Prelude.{◌≡◌, ℕ, List, Bool, Result, Ok, Err}
use Rattle.trace_types.specs.Operation.{Operation}
use Rattle.trace_reader.specs.declared.fault.LineFault.{LineFault}
use Rattle.trace_reader.specs.Reading.{read_trace}
use Rattle.retention_report.specs.Explained.{Explains}
use Rattle.command_serve.specs.declared.due.Due.{Due}
use Rattle.command_serve.specs.Serve.{fault_due}

-- what is told of the objects given, or of those of note; or the line of the first fault
abbrev pub IsExplainedBy : List ℕ → Bool → Result (List Operation) LineFault → Due → Type 0
IsExplainedBy objects with_lives (Ok ops) due = Explains with_lives ops objects due.text due.is_fault
IsExplainedBy objects with_lives (Err fault) due = due ≡ fault_due fault

-- this is due for an input that is not too long
unfoldable pub IsExplainDue : List ℕ → Bool → List ℕ → Due → Type 0
IsExplainDue objects with_lives input due = IsExplainedBy objects with_lives (read_trace input) due
