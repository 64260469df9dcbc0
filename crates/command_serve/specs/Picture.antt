-- What `picture` writes for an input.
use Rattle.std.specs.Prelude.{◌≡◌, ℕ, List, Bool, Result, Ok, Err}
use Rattle.trace_types.specs.Operation.{Operation}
use Rattle.trace_reader.specs.declared.fault.LineFault.{LineFault}
use Rattle.trace_reader.specs.Reading.{read_trace}
use Rattle.retention_report.specs.Pictured.{Pictures}
use Rattle.command_serve.specs.declared.due.Due.{Due}
use Rattle.command_serve.specs.Serve.{fault_due}

-- the graph of the objects given, or of those of interest, or of all; or the line of the first fault
abbrev pub IsPicturedBy : List ℕ → Bool → Result (List Operation) LineFault → Due → Type 0
IsPicturedBy objects with_all (Ok ops) due = Pictures with_all ops objects due.text due.is_fault
IsPicturedBy objects with_all (Err fault) due = due ≡ fault_due fault

-- this is due for an input that is not too long
unfoldable pub IsPictureDue : List ℕ → Bool → List ℕ → Due → Type 0
IsPictureDue objects with_all input due = IsPicturedBy objects with_all (read_trace input) due
