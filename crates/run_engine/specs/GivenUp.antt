-- What becomes of checkpoints whose names a shelf answers.
use Rattle.std.specs.Prelude.{◌≡◌, ◌+◌, ◌&&◌, ℕ, zero, suc, filter, filter_map, slice_get, option_map, List, [], ◌∷◌, ◌++◌, length, fold, nat_le, nat_lt, Option, None, option_to_list, if◌then◌else◌}
use Rattle.std.specs.Option.{option_map_or}
use Rattle.trace_types.specs.Operation.{Operation}
use Rattle.trace_types.specs.Trace.{place_of}
use Rattle.mark_shelf.specs.Shelf.{Shelf, Touches}
use Rattle.op_step.specs.Chunk.{Chunk}
use Rattle.run_engine.specs.RunView.{RunView}
use Rattle.run_engine.specs.Segments.{without}
use Rattle.run_engine.specs.NewMarks.{AreMarksAfter}
use Rattle.run_engine.specs.Memo.{HasSameMarks}

-- touches of these names in turn, and the names that they answered
abbrev pub AreTouches : Shelf → List ℕ → List ℕ → Shelf → Type 0
AreTouches old [] gone new = (new ≡ old) × (gone ≡ [])
AreTouches old (id ∷ ids) gone new = (answer : Option ℕ) × (mid : Shelf) × (rest : List ℕ) × Touches old id mid answer × AreTouches mid ids rest new × (gone ≡ option_to_list answer ++ rest)

-- the checkpoints, without the inner one right behind the operation with this number
abbrev pub given_up : List Operation → List ℕ → ℕ → List ℕ
given_up trace marks name = option_map_or (λ i. if nat_lt (i + 1) (length trace) then without (i + 1) marks else marks) (place_of name trace) marks

-- a run and a shelf after touches of these names: the checkpoints whose names were answered are given up, and no others
pub record IsTouched (old new : RunView) (shelf after : Shelf) (names : List ℕ) : Type 0 where
  pub gone : List ℕ
  pub touches : AreTouches shelf names gone after
  pub trace : new.trace ≡ old.trace
  pub marks : new.marks ≡ fold (given_up old.trace) old.marks gone

-- the name of a checkpoint: the number of the operation before it
abbrev pub name_at : List Operation → ℕ → Option ℕ
name_at trace zero = None
name_at trace (suc i) = option_map (λ (op : Operation). op.id) (slice_get trace i)

-- the names of the inner ones among checkpoints
abbrev pub names_at : List Operation → List ℕ → List ℕ
names_at trace marks = filter_map (name_at trace) (filter (λ p. nat_lt p (length trace)) marks)

-- the checkpoints from one position to another, at both ends too
abbrev pub between : ℕ → ℕ → List ℕ → List ℕ
between from to marks = filter (λ p. nat_le from p && nat_le p to) marks

-- the checkpoints of the run of an edited trace, with a shelf before and after: of all that the replay leaves, those are given up whose names
-- are answered as the shelf, which was searched for chunks and remembers others, is touched with the names of the restart and then of the
-- new ones in order, the stop among them, where these are inner
pub record AreMarksKept (guesses : List Chunk) (old new : RunView) (shelf after : Shelf) : Type 0 where
  pub all : List ℕ
  pub from : ℕ
  pub to : ℕ
  pub middle : Shelf
  pub same_marks : HasSameMarks shelf middle
  pub replayed : AreMarksAfter guesses old (record { trace = new.trace; marks = all }) from to
  pub touched : IsTouched (record { trace = new.trace; marks = all }) new middle after (names_at new.trace (between from to all))
