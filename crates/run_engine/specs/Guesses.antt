-- What a replay may take as it is, beside the chunks of a shelf.
use Rattle.std.specs.Prelude.{◌≡◌, ℕ, List, ◌++◌, map, length, Contains}
use Rattle.trace_types.specs.Operation.{Operation}
use Rattle.ownership_model.specs.State.{State}
use Rattle.op_step.specs.Chunk.{Chunk}

-- the stretches of an old run, each between two neighbouring checkpoints, and guesses, which are chunks that somebody hands in
pub record Reusable : Type 0 where
  pub marks : List ℕ
  pub guesses : List Chunk

-- guesses beside numbered chunks
abbrev pub with_guesses : List Chunk → List (ℕ × Chunk) → List (ℕ × Chunk)
with_guesses guesses chunks = map (λ (c : Chunk). (0, c)) guesses ++ chunks

-- one of the guesses begins with the state and has these operations
abbrev pub IsGuessed : List Chunk → State → List Operation → Type 0
IsGuessed guesses start ops = Contains guesses (record { start = start; ops = ops })

-- one of the guesses has so many operations
abbrev pub IsAsLong : List Chunk → ℕ → Type 0
IsAsLong guesses g = (c : Chunk) × Contains guesses c × (length c.ops ≡ g)
