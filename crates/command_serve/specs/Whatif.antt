-- What `whatif` writes for an input.
use Rattle.std.specs.Prelude.{◌≡◌, ℕ, List, [], ◌∷◌, ◌++◌, codes, true, false, Result, Ok, Err}
use Rattle.trace_types.specs.Operation.{Operation}
use Rattle.trace_types.specs.declared.edits.Edit.{Edit}
use Rattle.trace_reader.specs.declared.fault.LineFault.{LineFault}
use Rattle.trace_reader.specs.declared.request.RequestLine.{RequestLine}
use Rattle.trace_reader.specs.declared.script.Script.{Script}
use Rattle.trace_reader.specs.Scripts.{read_script}
use Rattle.trace_reader.specs.Writing.{lines_text}
use Rattle.run_engine.specs.declared.editing.faults.Refusal.{Refusal}
use Rattle.run_engine.specs.Edited.{edited_by}
use Rattle.edit_desk.specs.declared.replies.Reply.TheVariants.{Refused}
use Rattle.edit_desk.specs.ReplyText.{reply_text}
use Rattle.command_serve.specs.declared.due.Due.{Due}
use Rattle.command_serve.specs.Serve.{fault_due}
use Rattle.command_serve.specs.Replay.{report_of_replay}

-- the edits of the one request; without a request there is none
abbrev pub only_batch : List RequestLine → List Edit
only_batch [] = []
only_batch (line ∷ lines) = line.batch

-- the canonical lines of the edited trace and its report, or the line of the refusal
abbrev pub edited_due : Result (List Operation) Refusal → Due
edited_due (Ok ops) =
    record { text = lines_text ops ++ codes "--\n" ++ report_of_replay ops; is_fault = false }
edited_due (Err why) = record { text = reply_text (Refused why) ++ 10 ∷ []; is_fault = true }

-- what is due for the edits that were read, or the line of the first fault
abbrev pub whatif_answer : Result Script LineFault → Due
whatif_answer (Ok script) = edited_due (edited_by script.trace (only_batch script.requests))
whatif_answer (Err fault) = fault_due fault

-- this is due for an input that is not too long
unfoldable pub IsWhatifDue : List ℕ → Due → Type 0
IsWhatifDue input due = due ≡ whatif_answer (read_script true input)
