-- Where a replay and the old run beside it may differ.
use Rattle.std.specs.Prelude.{◌≡◌, ℕ, ◌≤◌, List, length, take, IfSome}
use Rattle.ownership_model.specs.State.{State, nothing_held}
use Rattle.ownership_model.specs.Step.{end_from}
use Rattle.ownership_model.specs.Touched.{AgreeOutside}
use Rattle.run_engine.specs.declared.replay.divergence.Divergence.{Divergence}
use Rattle.run_engine.specs.declared.replay.progress.Fork.{Fork}
use Rattle.run_engine.specs.declared.replay.revision.Revision.{Revision}
use Rattle.run_engine.specs.SegmentView.{SegmentView}
use Rattle.run_engine.specs.Segments.{trace_of}
use Rattle.run_engine.specs.inner.OldRun.{old_trace, new_trace}

-- both replays have the same heap there
abbrev pub IsFork : Revision → Fork → Type 0
IsFork r fork =
    end_from nothing_held (take fork.edited (new_trace r)) ≡ end_from nothing_held (take fork.base (old_trace r))

-- but for the suspects, where those are known, both have the same objects
abbrev pub DifferWithin : Divergence → State → State → Type 0
DifferWithin d new old = IfSome d.suspects (λ os. AgreeOutside os new old)

-- so it is where the replays of both traces stand
abbrev pub IsDivergence : Revision → Divergence → Type 0
IsDivergence r d =
    DifferWithin d (end_from nothing_held (take d.edited (new_trace r))) (end_from nothing_held (take d.base (old_trace r)))

-- the objects that outcomes tell of have joined the suspects, from the segment at a position on and before the one at an index
pub record HasFollowed (segments : List SegmentView) (from index : ℕ) (os more : List ℕ) : Type 0 where
  -- there are that many operations
  pub within : from ≤ length (trace_of segments)
  -- a state that was the same but for the suspects is so again
  pub outside : (other : State) → AgreeOutside os (end_from nothing_held (take from (trace_of segments))) other
      → AgreeOutside more (end_from nothing_held (trace_of (take index segments))) other

-- two heaps were compared: the replays stand where they stood, and what is known of where they may differ holds
pub record HasCompared (before after : Divergence) (new old : State) : Type 0 where
  pub edited : after.edited ≡ before.edited
  pub base : after.base ≡ before.base
  pub within : DifferWithin after new old
