-- Guesses of what a request gives (profile of this project).
use Rattle.std.specs.Prelude.{◌≡◌, ◌⊎◌, List, []}
use Rattle.trace_types.specs.declared.edits.Edit.{Edit}
use Rattle.op_step.specs.Chunk.{Chunk}
use Rattle.run_engine.specs.RunView.{RunView}
use Rattle.run_engine.specs.Jobs.{AreJobsOf}

-- none, or the chunk of each job that the batch makes of the run
abbrev pub AreGuesses : RunView → List Edit → List Chunk → Type 0
AreGuesses run batch guesses = (guesses ≡ []) ⊎ AreJobsOf run batch guesses
