-- A replay that goes on, where the names of its checkpoints are touched ahead of it.
use Rattle.std.specs.Prelude.{◌≡◌, ◌==◌, ◌+◌, ◌-◌, ℕ, Bool, true, List, [], ◌∷◌, ◌++◌, length, map, fold}
use Rattle.std.specs.List.{list_any}
use Rattle.trace_types.specs.Operation.{Operation}
use Rattle.mark_shelf.specs.Shelf.{Shelf}
use Rattle.op_step.specs.Chunk.{Chunk}
use Rattle.run_engine.specs.Guesses.{Reusable}
use Rattle.run_engine.specs.RunView.{RunView}
use Rattle.run_engine.specs.SegmentView.{SegmentView}
use Rattle.run_engine.specs.Segments.{ops_of}
use Rattle.run_engine.specs.Marks.{multiples_below}
use Rattle.run_engine.specs.NewMarks.{AreLaid, AreMarksOf, AreMarksAfter}
use Rattle.run_engine.specs.Memo.{AreSome}
use Rattle.run_engine.specs.GivenUp.{AreTouches, given_up, names_at, between}

-- whether a name is one of these
abbrev pub among : List ℕ → ℕ → Bool
among names id = list_any (λ name. id == name) names

-- a test holds for these names and no others
abbrev pub AreNames : (ℕ → Bool) → List ℕ → Type 0
AreNames named names = (id : ℕ) → named id ≡ among names id

-- where the first test holds the second does
abbrev pub AreMore : (ℕ → Bool) → (ℕ → Bool) → Type 0
AreMore named more = (id : ℕ) → named id ≡ true → more id ≡ true

-- where the checkpoints with these names are given up, both lists of checkpoints leave the same
abbrev pub LeaveSame : List Operation → List ℕ → List ℕ → List ℕ → Type 0
LeaveSame trace names marks all = fold (given_up trace) marks names ≡ fold (given_up trace) all names

-- the cuts from one position on, and below another, each 64 behind the one before it
abbrev pub cuts : ℕ → ℕ → List ℕ
cuts from to = map (λ p. from + p) (multiples_below (to - from))

-- where segments begin, the first of them at a position
abbrev pub begins : ℕ → List SegmentView → List ℕ
begins at [] = []
begins at (s ∷ segments) = at ∷ begins (at + length (ops_of s)) segments

-- touches of names, which answer others, and look-ups of chunks lead from one shelf to another, whose chunks are not new
pub record AreMarksTouched (old new : Shelf) (names answers : List ℕ) : Type 0 where
  pub touches : (s : Shelf) → s.most_marks ≡ old.most_marks → AreTouches (record s { marks = old.marks }) names answers (record s { marks = new.marks })
  pub most_marks : new.most_marks ≡ old.most_marks
  pub most_chunks : new.most_chunks ≡ old.most_chunks
  pub most_names : new.most_names ≡ old.most_names
  pub fewer : AreSome new.chunks old.chunks

-- touches of names and look-ups of chunks lead from one shelf to another, and a test that held for some names holds for those that were
-- answered, too
pub record AreAnswered (old new : Shelf) (names : List ℕ) (before after : ℕ → Bool) : Type 0 where
  pub answers : List ℕ
  pub touched : AreMarksTouched old new names answers
  pub join : (first : List ℕ) → AreNames before first → AreNames after (first ++ answers)
  pub rise : AreMore before after

-- a replay goes on from one position to another with these cuts on the way: the checkpoints that it has then leave the same as all that
-- are due, whichever names are given up, if those for which the test holds are among them
pub record IsWay (trace : List Operation) (old : Reusable) (at to : ℕ) (more marks new : List ℕ) (gone : ℕ → Bool) : Type 0 where
  pub lead : (kept : List ℕ) (r : ℕ) (all : List ℕ) → AreLaid old kept r at all → AreLaid old kept r to (all ++ more)
  pub left : (names all : List ℕ) → AreMore gone (among names) → LeaveSame trace names marks all → LeaveSame trace names new (all ++ more)

-- a replay goes on from one position to another with some cuts on the way, whose names are touched
pub record IsOnward (trace : List Operation) (old : Reusable) (at to : ℕ) (marks new : List ℕ) (shelf after : Shelf) (before gone : ℕ → Bool) : Type 0 where
  pub more : List ℕ
  pub way : IsWay trace old at to more marks new gone
  pub answered : AreAnswered shelf after (names_at trace more) before gone

-- A replay of an edited trace, which began again at a position: the old trace and the new one, the checkpoints before that position, what may
-- serve, the checkpoints of the new run, and from where on both traces have the same operations
pub record Resumed : Type 0 where
  pub trace : List Operation
  pub ops : List Operation
  pub kept : List ℕ
  pub old : Reusable
  pub new : List ℕ
  pub from : ℕ
  pub base : ℕ
  pub edited : ℕ

-- a replay with these checkpoints, which leave the same as all that are due as far as a stop: the names of the restart and of those that
-- are new were touched
pub record AreMarksLeft (x : Resumed) (shelf after : Shelf) (before gone : ℕ → Bool) : Type 0 where
  pub all : List ℕ
  pub stop : ℕ
  pub marks : AreMarksOf x.trace x.ops x.kept x.old all x.from x.base x.edited stop
  pub left : (names : List ℕ) → AreMore gone (among names) → LeaveSame x.ops names x.new all
  pub answered : AreAnswered shelf after (names_at x.ops (x.from ∷ marks.fresh)) before gone

-- the same of the run of an edited trace, beside the old run
pub record AreMarksDue (guesses : List Chunk) (old new : RunView) (shelf after : Shelf) (gone : ℕ → Bool) : Type 0 where
  pub all : List ℕ
  pub from : ℕ
  pub to : ℕ
  pub names : List ℕ
  pub replayed : AreMarksAfter guesses old (record { trace = new.trace; marks = all }) from to
  pub left : LeaveSame new.trace names new.marks all
  pub touched : AreMarksTouched shelf after (names_at new.trace (between from to all)) names
  pub gone_are : AreNames gone names
