-- What a desk replies to a request, and what it has then (profile of this project).
use Rattle.std.specs.Prelude.{◌≡◌, ℕ, ◌+◌, ◌==◌, List, [], ◌∷◌, ◌++◌, length, nat_le, if◌then◌else◌, Result, Ok, Err}
use Rattle.trace_types.specs.Operation.{Operation}
use Rattle.trace_types.specs.declared.limits.TheConstants.{MAX_ENTRIES}
use Rattle.run_engine.specs.declared.editing.faults.Refusal.{Refusal}
use Rattle.run_engine.specs.Edited.{edited_by}
use Rattle.edit_desk.specs.declared.replies.Reply.{Reply}
use Rattle.edit_desk.specs.declared.replies.Reply.TheVariants.{Accepted, Stale, Refused, HistoryFull}
use Rattle.edit_desk.specs.declared.entries.Request.{Request}
use Rattle.edit_desk.specs.declared.entries.Entry.{Entry}

-- the trace that was opened, the one that stands, its version, and the requests that were answered, each with its session
-- and its reply
pub record Standing : Type 0 where
  pub opening : List Operation
  pub trace : List Operation
  pub version : ℕ
  pub history : List Entry

-- a trace that nobody has edited yet
abbrev pub opened : List Operation → Standing
opened trace = record { opening = trace; trace = trace; version = 0; history = [] }

-- the reply to edits of the version that stands, by what they make of its trace
abbrev pub settled : ℕ → Result (List Operation) Refusal → Reply
settled version (Ok ops) = Accepted (version + 1)
settled version (Err why) = Refused why

-- the reply to a request that a history has room for, by the version and the trace that stand
abbrev pub reply_with_room : ℕ → List Operation → Request → Reply
reply_with_room version trace r = if r.base == version then settled version (edited_by trace r.batch) else Stale version

-- the reply to a request
abbrev pub reply_to : Standing → Request → Reply
reply_to s r = if nat_le MAX_ENTRIES (length s.history) then HistoryFull else reply_with_room s.version s.trace r

-- the edited trace, or the one that stands where the edits are refused
abbrev pub edited_or : List Operation → Result (List Operation) Refusal → List Operation
edited_or trace (Ok ops) = ops
edited_or trace (Err why) = trace

-- the trace after a reply: an accepted request alone changes it
abbrev pub next_trace : List Operation → Request → Reply → List Operation
next_trace trace r (Accepted version) = edited_or trace (edited_by trace r.batch)
next_trace trace r (Stale version) = trace
next_trace trace r (Refused why) = trace
next_trace trace r HistoryFull = trace

-- the version after a reply
abbrev pub next_version : ℕ → Reply → ℕ
next_version now (Accepted version) = version
next_version now (Stale version) = now
next_version now (Refused why) = now
next_version now HistoryFull = now

-- the history after a reply: each request that is answered otherwise than by HistoryFull is stored
abbrev pub next_history : List Entry → Entry → Reply → List Entry
next_history history e (Accepted version) = history ++ e ∷ []
next_history history e (Stale version) = history ++ e ∷ []
next_history history e (Refused why) = history ++ e ∷ []
next_history history e HistoryFull = history

-- what stands after a reply
abbrev pub after_reply : Standing → Entry → Reply → Standing
after_reply s e reply = record { opening = s.opening; trace = next_trace s.trace e.request reply; version = next_version s.version reply; history = next_history s.history e reply }

-- what stands after a request
abbrev pub after : Standing → ℕ → Request → Standing
after s session r = let e : Entry = record { session = session; request = r; reply = reply_to s r } in after_reply s e (reply_to s r)

-- requests that were answered one after another lead from one standing to another, and each reply is the one that was due
abbrev pub LeadsTo : Standing → List Entry → Standing → Type 0
LeadsTo s [] end = s ≡ end
LeadsTo s (e ∷ es) end = (e.reply ≡ reply_to s e.request) × LeadsTo (after s e.session e.request) es end

-- the history leads from the opening trace to what stands
abbrev pub IsLegal : Standing → Type 0
IsLegal s = LeadsTo (opened s.opening) s.history s
