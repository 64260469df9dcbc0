-- Fronts, the beginnings of a history that sessions have seen, and what stands after them (profile of this project).
use Rattle.std.specs.Prelude.{ℕ, ◌≡◌, ◌+◌, ◌==◌, Bool, true, false, List, [], ◌∷◌, if◌then◌else◌}
use Rattle.trace_types.specs.Operation.{Operation}
use Rattle.edit_desk.specs.declared.entries.Entry.{Entry}
use Rattle.edit_desk.specs.declared.replies.Reply.{Reply}
use Rattle.edit_desk.specs.declared.replies.Reply.TheVariants.{Accepted, Stale, Refused, HistoryFull}
use Rattle.edit_desk.specs.Answers.{Standing, opened, after, IsLegal}

-- what stands after requests that were made one after another
abbrev pub standing_from : Standing → List Entry → Standing
standing_from s [] = s
standing_from s (e ∷ es) = standing_from (after s e.session e.request) es

-- what stands after these entries, from the opening trace on
abbrev pub standing_of : List Operation → List Entry → Standing
standing_of trace h = standing_from (opened trace) h

-- the desk's history after these entries is they, and each reply in it is the one that was due
pub record IsFront (trace : List Operation) (h : List Entry) : Type 0 where
  pub legal : IsLegal (standing_of trace h)
  pub stored : (standing_of trace h).history ≡ h

-- the trace after these entries
abbrev pub trace_after : List Operation → List Entry → List Operation
trace_after trace h = (standing_of trace h).trace

-- 1 for an accepted request, else 0
abbrev pub one_if_accepted : Reply → ℕ
one_if_accepted (Accepted version) = 1
one_if_accepted (Stale version) = 0
one_if_accepted (Refused fault) = 0
one_if_accepted HistoryFull = 0

-- how many of the entries were accepted
abbrev pub accepted_of : List Entry → ℕ
accepted_of [] = 0
accepted_of (e ∷ es) = one_if_accepted e.reply + accepted_of es

-- 1 for true, 0 for false
abbrev pub one_if : Bool → ℕ
one_if b = if b then 1 else 0

-- how many entries the session has
abbrev pub count_of : ℕ → List Entry → ℕ
count_of s [] = 0
count_of s (e ∷ es) = one_if (e.session == s) + count_of s es

-- whether the reply is HistoryFull
abbrev pub is_full : Reply → Bool
is_full (Accepted version) = false
is_full (Stale version) = false
is_full (Refused fault) = false
is_full HistoryFull = true
