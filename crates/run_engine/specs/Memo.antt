-- Chunks that were replayed before.
use Rattle.std.specs.Prelude.{◌≡◌, ℕ, List, Contains}
use Rattle.trace_types.specs.Operation.{Operation}
use Rattle.ownership_model.specs.State.{State}
use Rattle.op_step.specs.Chunk.{Chunk}
use Rattle.mark_shelf.specs.Shelf.{Shelf}

-- one of the numbered chunks begins with the state and has these operations
abbrev pub IsAmong : List (ℕ × Chunk) → State → List Operation → Type 0
IsAmong chunks start ops = (number : ℕ) × Contains chunks (number, record { start = start; ops = ops })

-- each of the first is one of the others
abbrev pub AreSome : List (ℕ × Chunk) → List (ℕ × Chunk) → Type 0
AreSome some all = (e : ℕ × Chunk) → Contains some e → Contains all e

-- a shelf has the same names of checkpoints as before, and as much room
pub record HasSameMarks (old new : Shelf) : Type 0 where
  pub marks : new.marks ≡ old.marks
  pub most_marks : new.most_marks ≡ old.most_marks
  pub most_chunks : new.most_chunks ≡ old.most_chunks
  pub most_names : new.most_names ≡ old.most_names

-- a shelf after look-ups of chunks: the names of checkpoints stay, and no chunk is new
pub record IsSearched (old new : Shelf) : Type 0 where
  pub same_marks : HasSameMarks old new
  pub fewer : AreSome new.chunks old.chunks
