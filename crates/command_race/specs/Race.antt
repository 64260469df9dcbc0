-- What `race` writes for an input (profile of this project).
use Rattle.std.specs.Prelude.{◌≡◌, ◌==◌, ℕ, List, [], ◌∷◌, ◌++◌, length, Bool, true, false, codes, decimal, flat_map, slice_index_or, Result, Ok, Err}
use Rattle.trace_types.specs.Operation.{Operation}
use Rattle.trace_reader.specs.declared.fault.LineFault.{LineFault}
use Rattle.trace_reader.specs.declared.request.RequestLine.{RequestLine}
use Rattle.trace_reader.specs.declared.script.Script.{Script}
use Rattle.trace_reader.specs.Scripts.{read_script}
use Rattle.edit_desk.specs.declared.entries.Entry.{Entry}
use Rattle.edit_desk.specs.declared.entries.Request.{Request}
use Rattle.edit_desk.specs.ReplyText.{reply_text}
use Rattle.live_sessions.specs.Fronts.{IsFront, trace_after}
use Rattle.live_sessions.specs.Races.{asked_by, AreAsked}
use Rattle.command_serve.specs.Replay.{report_of_replay}
use Rattle.command_serve.specs.Script.{request_of}
use Rattle.command_serve.specs.declared.due.Due.{Due}
use Rattle.command_serve.specs.Serve.{fault_due}

-- the request of a line before these, where the line counts
abbrev pub ask_if : Bool → RequestLine → List Request → List Request
ask_if true line requests = request_of line ∷ requests
ask_if false line requests = requests

-- the requests of one session's lines, in order
abbrev pub requests_of : ℕ → List RequestLine → List Request
requests_of s [] = []
requests_of s (line ∷ lines) = ask_if (line.session == s) line (requests_of s lines)

-- the line before these, unless it counts
abbrev pub keep_unless : Bool → RequestLine → List RequestLine → List RequestLine
keep_unless true line lines = lines
keep_unless false line lines = line ∷ lines

-- the lines of the other sessions
abbrev pub others_of : ℕ → List RequestLine → List RequestLine
others_of s [] = []
others_of s (line ∷ lines) = keep_unless (line.session == s) line (others_of s lines)

-- each reply of the history is the one that was due, and each session's entries answer its lines in
-- order: all of them, or the first ones where the history is full
pub record IsRaced (trace : List Operation) (lines : List RequestLine) (h : List Entry)
    : Type 0 where
  pub legal : IsFront trace h
  pub asked : (s : ℕ) → AreAsked (requests_of s lines) (asked_by s h) (length h)

-- the line of an entry
abbrev pub entry_text : Entry → List ℕ
entry_text e = codes "session " ++ decimal e.session ++ codes " " ++ reply_text e.reply ++ 10 ∷ []

-- the lines of a history
abbrev pub history_text : List Entry → List ℕ
history_text h = flat_map entry_text h

-- the lines of a history, and the report of the replay of the trace after it
abbrev pub race_text : List Operation → List Entry → List ℕ
race_text trace h = history_text h ++ report_of_replay (trace_after trace h)

-- the text of a race in which the session at each place made its requests there
abbrev pub IsRaceText : List Operation → List (List Request) → List ℕ → Type 0
IsRaceText trace requests text = (h : List Entry) × IsFront trace h
    × ((s : ℕ) → AreAsked (slice_index_or requests s []) (asked_by s h) (length h))
    × (text ≡ race_text trace h)

-- the text of a race over what was read, or the line of the first fault
abbrev pub IsRaceAnswer : Result Script LineFault → Due → Type 0
IsRaceAnswer (Ok script) due = (h : List Entry) × IsRaced script.trace script.requests h
    × (due ≡ record { text = race_text script.trace h; is_fault = false })
IsRaceAnswer (Err fault) due = due ≡ fault_due fault

-- this may be due for an input that is not too long: each race has its own history
unfoldable pub IsRaceDue : List ℕ → Due → Type 0
IsRaceDue input due = IsRaceAnswer (read_script false input) due
