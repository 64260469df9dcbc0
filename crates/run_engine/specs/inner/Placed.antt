-- Where a replay is known to stand.
use Rattle.std.specs.Prelude.{◌≡◌, ℕ, List, IfSome}
use Rattle.ownership_model.specs.State.{State}
use Rattle.ownership_model.specs.Step.{end_from}
use Rattle.op_step.specs.Chunk.{Chunk}
use Rattle.mark_shelf.specs.Joints.{EndsWith}
use Rattle.run_engine.specs.declared.replay.origin.Behind.TheVariants.{Stepped}
use Rattle.run_engine.specs.declared.replay.prefix.Prefix.{Prefix}
use Rattle.run_engine.specs.declared.replay.prefix.NextStretch.{NextStretch}
use Rattle.run_engine.specs.inner.Origins.{stepped_chunk, behind_of, shelf_number}

-- a prefix ends where its last chunk does, or one of the numbered chunks, if it is known for either
pub record IsPlaced (chunks : List (ℕ × Chunk)) (prefix : Prefix) : Type 0 where
  pub fresh : prefix.behind ≡ Stepped → IfSome prefix.fresh (λ s. s ≡ prefix.end)
  pub kept : IfSome (shelf_number prefix.behind) (λ k. EndsWith chunks k prefix.end)

-- what a replay goes on with from a state ends where the chunk does that was stepped from there, or one of the numbered chunks
pub record IsNext (chunks : List (ℕ × Chunk)) (start : State) (next : NextStretch) : Type 0 where
  pub start_is : IfSome (stepped_chunk next.origin) (λ c. c.start ≡ start)
  pub end_is : IfSome (stepped_chunk next.origin) (λ c. end_from c.start c.ops ≡ next.end)
  pub kept : IfSome (shelf_number (behind_of next.origin)) (λ k. EndsWith chunks k next.end)
