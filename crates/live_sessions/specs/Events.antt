-- The one history as events: the opening, and then the entries (profile of this project).
use Rattle.std.specs.Prelude.{◌≡◌, List, [], ◌∷◌}
use Rattle.trace_types.specs.Operation.{Operation}
use Rattle.edit_desk.specs.declared.entries.Entry.{Entry}
use Rattle.live_sessions.specs.declared.book.Event.{Event}
use Rattle.live_sessions.specs.declared.book.Event.TheVariants.{Opened, Answered}
use Rattle.live_sessions.specs.Fronts.{IsFront}

-- the entry of an event, if it has one, before these entries
abbrev pub add_entry : Event → List Entry → List Entry
add_entry (Opened t) es = es
add_entry (Answered e) es = e ∷ es

-- the entries of events, in order
abbrev pub entries_of : List Event → List Entry
entries_of [] = []
entries_of (x ∷ xs) = add_entry x (entries_of xs)

-- the trace that an event opens with
abbrev pub trace_of : Event → List Operation
trace_of (Opened t) = t
trace_of (Answered e) = []

-- the trace that the first event opens with
abbrev pub opening_of : List Event → List Operation
opening_of [] = []
opening_of (x ∷ xs) = trace_of x

-- the events of entries
abbrev pub answers : List Entry → List Event
answers [] = []
answers (e ∷ es) = Answered e ∷ answers es

-- the opening, once, and then entries that are legal from it
pub record IsHistory (opening : List Operation) (log : List Event) : Type 0 where
  pub is : log ≡ Opened opening ∷ answers (entries_of log)
  pub legal : IsFront opening (entries_of log)
