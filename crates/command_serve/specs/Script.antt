-- What `script` writes for an input.
use Rattle.std.specs.Prelude.{◌≡◌, ℕ, List, [], ◌∷◌, ◌++◌, flat_map, false, Result, Ok, Err}
use Rattle.trace_reader.specs.declared.fault.LineFault.{LineFault}
use Rattle.trace_reader.specs.declared.request.RequestLine.{RequestLine}
use Rattle.trace_reader.specs.declared.script.Script.{Script}
use Rattle.trace_reader.specs.Scripts.{read_script}
use Rattle.edit_desk.specs.declared.entries.Request.{Request}
use Rattle.edit_desk.specs.declared.replies.Reply.{Reply}
use Rattle.edit_desk.specs.Answers.{Standing, opened, reply_to, after}
use Rattle.edit_desk.specs.ReplyText.{reply_text}
use Rattle.command_serve.specs.declared.due.Due.{Due}
use Rattle.command_serve.specs.Serve.{fault_due}
use Rattle.command_serve.specs.Replay.{report_of_replay}

-- what a line asks of the desk: its edits and the version that they are for, without the session
abbrev pub request_of : RequestLine → Request
request_of line = record { base = line.base; batch = line.batch }

-- the replies to requests, one after another
abbrev pub replies_from : Standing → List RequestLine → List Reply
replies_from s [] = []
replies_from s (line ∷ lines) =
    reply_to s (request_of line) ∷ replies_from (after s line.session (request_of line)) lines

-- what the desk has then
abbrev pub standing_from : Standing → List RequestLine → Standing
standing_from s [] = s
standing_from s (line ∷ lines) = standing_from (after s line.session (request_of line)) lines

-- a line for each reply, in order: `accepted 1`
abbrev pub replies_text : List Reply → List ℕ
replies_text replies = flat_map (λ reply. reply_text reply ++ 10 ∷ []) replies

-- the replies, and the report of the last version
abbrev pub script_text : Script → List ℕ
script_text script =
    replies_text (replies_from (opened script.trace) script.requests)
    ++ report_of_replay (standing_from (opened script.trace) script.requests).trace

-- the text for the script that was read, or the line of the first fault
abbrev pub script_answer : Result Script LineFault → Due
script_answer (Ok script) = record { text = script_text script; is_fault = false }
script_answer (Err fault) = fault_due fault

-- this is due for an input that is not too long
unfoldable pub IsScriptDue : List ℕ → Due → Type 0
IsScriptDue input due = due ≡ script_answer (read_script false input)
