-- The keys at which a replay and the old run beside it differ.
use Rattle.std.specs.Prelude.{◌≡◌, ℕ, ◌++◌, ◌≤◌, List, length, take, true, IfSome}
use Rattle.trace_types.specs.Operation.{Operation}
use Rattle.ownership_model.specs.declared.key.Key.{Key}
use Rattle.ownership_model.specs.State.{nothing_held}
use Rattle.ownership_model.specs.Step.{end_from}
use Rattle.heap_difference.specs.declared.key_set.KeySet.{KeySet}
use Rattle.heap_difference.specs.KeySets.{is_among}
use Rattle.heap_difference.specs.Differences.{IsDifference}
use Rattle.heap_difference.specs.Laws.{HasTouched}
use Rattle.run_engine.specs.declared.replay.difference.Difference.{Difference}
use Rattle.run_engine.specs.declared.replay.revision.Revision.{Revision}
use Rattle.run_engine.specs.SegmentView.{SegmentView}
use Rattle.run_engine.specs.Segments.{trace_of}
use Rattle.run_engine.specs.inner.OldRun.{old_trace, new_trace}

-- the keys have all at which the heaps differ behind so many operations of either trace
abbrev pub DifferAt : Revision → KeySet → ℕ → ℕ → Type 0
DifferAt r keys edited base =
    IsDifference keys (end_from nothing_held (take base (old_trace r))) (end_from nothing_held (take edited (new_trace r)))

-- so have those that are known, where the replays stand
abbrev pub AreDiffering : Revision → Difference → Type 0
AreDiffering r d = IfSome d.keys (λ k. DifferAt r k d.edited d.base)

-- the keys have all that they had, and what is touched, moved or copied from a position on and before the segment at an index
pub record HasGathered (segments : List SegmentView) (from index : ℕ) (before after : KeySet) : Type 0 where
  pub ops : List Operation
  -- there are that many operations in front of it
  pub within : from ≤ length (trace_of segments)
  pub way : trace_of (take index segments) ≡ take from (trace_of segments) ++ ops
  pub more : (x : Key) → is_among before x ≡ true → is_among after x ≡ true
  pub touched : HasTouched after (end_from nothing_held (take from (trace_of segments))) ops
