-- The old stretches that a replay goes over anew.
use Rattle.std.specs.Prelude.{◌≡◌, take, IfSome}
use Rattle.ownership_model.specs.State.{nothing_held}
use Rattle.ownership_model.specs.Step.{end_from}
use Rattle.run_engine.specs.declared.replay.replaced.Replaced.{Replaced}
use Rattle.run_engine.specs.declared.replay.revision.Revision.{Revision}
use Rattle.run_engine.specs.inner.OldRun.{old_trace}

-- the last of them ends with the state that the old run has there, and that is the heap that is kept
pub record AreReplaced (r : Revision) (x : Replaced) : Type 0 where
  pub chunks : IfSome x.chunks (λ s. s ≡ end_from nothing_held (take x.at (old_trace r)))
  pub heap : IfSome x.heap (λ h. h ≡ end_from nothing_held (take x.at (old_trace r)))
