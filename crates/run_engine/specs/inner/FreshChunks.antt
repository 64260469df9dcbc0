-- Chunks that were stepped one behind the other.
use Rattle.std.specs.Prelude.{◌≡◌, true, List, [], ◌∷◌, Option, Some, IfSome}
use Rattle.ownership_model.specs.State.{State}
use Rattle.ownership_model.specs.Step.{end_from}
use Rattle.run_engine.specs.declared.replay.fresh.FreshChunk.{FreshChunk}

-- the state at which the last of the chunks ends, or without one the state before them, if there is one
abbrev pub end_after : Option State → List FreshChunk → Option State
end_after before [] = before
end_after before (f ∷ fs) = end_after (Some (end_from f.chunk.start f.chunk.ops)) fs

-- each chunk that follows begins with the state at which the one before it ends
abbrev pub AreLinked : Option State → List FreshChunk → Type 0
AreLinked before [] = Unit {0}
AreLinked before (f ∷ fs) = (f.follows ≡ true → IfSome before (λ s. s ≡ f.chunk.start)) × AreLinked (Some (end_from f.chunk.start f.chunk.ops)) fs
