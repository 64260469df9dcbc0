-- What `replay` writes for an input.
use Rattle.std.specs.Prelude.{◌≡◌, ℕ, List, false, Result, Ok, Err}
use Rattle.trace_types.specs.Operation.{Operation}
use Rattle.ownership_model.specs.State.{nothing_held}
use Rattle.ownership_model.specs.Step.{outcomes_from, end_from}
use Rattle.trace_reader.specs.declared.fault.LineFault.{LineFault}
use Rattle.trace_reader.specs.Reading.{read_trace}
use Rattle.leak_report.specs.Report.{report_of}
use Rattle.leak_report.specs.Text.{report_text}
use Rattle.command_serve.specs.declared.due.Due.{Due}
use Rattle.command_serve.specs.Serve.{fault_due}

-- the report of the replay of a trace from an empty heap
abbrev pub report_of_replay : List Operation → List ℕ
report_of_replay ops =
    report_text (report_of ops (outcomes_from nothing_held ops) (end_from nothing_held ops))

-- the report, or the line of the first fault
abbrev pub answer_of : Result (List Operation) LineFault → Due
answer_of (Ok ops) = record { text = report_of_replay ops; is_fault = false }
answer_of (Err fault) = fault_due fault

-- this is due for an input that is not too long
unfoldable pub IsReplayDue : List ℕ → Due → Type 0
IsReplayDue input due = due ≡ answer_of (read_trace input)
