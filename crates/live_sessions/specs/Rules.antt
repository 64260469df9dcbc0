-- The rule of the book that keeps the one history, and what a step of it tells (profile of this project).
use Rattle.std.specs.Prelude.{ℕ, ◌≡◌, ◌==◌, true, List, [], ◌∷◌, ◌++◌, length, MatchBool}
use Rattle.logbook.specs.Pages.{Cell, Step, View, Book, Named}
use Rattle.trace_types.specs.Operation.{Operation}
use Rattle.live_sessions.specs.declared.book.Event.{Event}
use Rattle.live_sessions.specs.Events.{entries_of, IsHistory}

-- the word is the number of entries, and the log is a legal history
pub record IsKept (cells : List Cell) (log : List Event) : Type 0 where
  pub opening : List Operation
  pub words : cells ≡ (length (entries_of log), true) ∷ []
  pub history : IsHistory opening log

-- the book's one word, under key 0
abbrev pub head_of : Book → Named
head_of b = record { tracked = true; key = 0; book = b }

-- the log is a legal history, whatever it opens with
abbrev pub IsSomeHistory : List Event → Type 0
IsSomeHistory log = (opening : List Operation) × IsHistory opening log

-- the entry was added to all that had been seen; or the history was longer, and was seen
abbrev pub Adds : Step Event → View Event ℕ → ℕ → View Event ℕ → Type 0
Adds s v found w = MatchBool (found == s.old) ((w.0 ≡ v.0 ++ s.ask ∷ []) × IsSomeHistory w.0) ((length (entries_of w.0) ≡ found) × IsSomeHistory w.0)
