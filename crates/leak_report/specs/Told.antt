-- What is told of lives, event by event. Private functions alone speak of it; `Lives` says what became of an object without it.
use Rattle.std.specs.Prelude.{◌≡◌, ◌==◌, ℕ, ◌<◌, List, length, slice_index_or, Some, None, if◌then◌else◌}
use Rattle.std.specs.Option.{option_or}
use Rattle.trace_types.specs.declared.outcomes.Event.{Event}
use Rattle.leak_report.specs.declared.lives.Ending.{Ending}
use Rattle.leak_report.specs.declared.lives.Life.{Life}
use Rattle.leak_report.specs.Lives.{ending_at, freed_at, first_ending, first_freed}

-- an object before any event
abbrev pub begins : ℕ → Life
begins o = record { object = o; ending = None; freed = None }

-- each life is of a later object than the one before it
abbrev pub HasRisingObjects : List Life → Type 0
HasRisingObjects ls = (i j : ℕ) (d : Life) → i < j → j < length ls → (slice_index_or ls i d).object < (slice_index_or ls j d).object

-- none of these lives is of that object
abbrev pub HasNone : ℕ → List Life → Type 0
HasNone o ls = (i : ℕ) (d : Life) → i < length ls → (slice_index_or ls i d).object ≡ o → ⊥

-- the value of an object ends so, where it didn't end before
abbrev pub ends : ℕ → Ending → Life → Life
ends o ending l = record { object = l.object; ending = option_or l.ending (if o == l.object then Some ending else None); freed = l.freed }

-- an operation gives up the allocation of an object, where none did before
abbrev pub gives_up : ℕ → ℕ → Life → Life
gives_up o id l = record { object = l.object; ending = l.ending; freed = option_or l.freed (if o == l.object then Some id else None) }

-- a life with what an event tells of it
abbrev pub told_by : ℕ × Event → Life → Life
told_by e l = record { object = l.object; ending = option_or l.ending (ending_at l.object e); freed = option_or l.freed (freed_at l.object e) }

-- a life with what events tell of it
abbrev pub told_by_all : List (ℕ × Event) → Life → Life
told_by_all es l = record { object = l.object; ending = option_or l.ending (first_ending l.object es); freed = option_or l.freed (first_freed l.object es) }
