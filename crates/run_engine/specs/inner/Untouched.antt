-- Old stretches, and parts of them, that are taken over though the states differ.
use Rattle.std.specs.Prelude.{◌≡◌, ℕ, ◌+◌, ◌-◌, ◌<◌, ◌≤◌, List, [], ◌∷◌, ◌++◌, length, take, drop, flat_map, Bool, Some, true, is_some, Contains}
use Rattle.trace_types.specs.Operation.{Operation}
use Rattle.trace_types.specs.declared.outcomes.Outcome.{Outcome}
use Rattle.ownership_model.specs.declared.key.Key.{Key}
use Rattle.ownership_model.specs.State.{State, nothing_held}
use Rattle.ownership_model.specs.Step.{end_from, AreUnused}
use Rattle.agreement.specs.Agreement.{Agree}
use Rattle.heap_difference.specs.declared.key_set.KeySet.{KeySet}
use Rattle.heap_difference.specs.declared.holders.Holders.{Holders}
use Rattle.heap_difference.specs.KeySets.{set_of}
use Rattle.heap_difference.specs.Naming.{outcome_keys, with_names}
use Rattle.heap_difference.specs.Differences.{IsDifference}
use Rattle.heap_difference.specs.Layers.{LayerView, IsLaidBy, AreAmong}
use Rattle.heap_difference.specs.Passing.{IsUnderWay, ReadTheSame, MayBePassed}
use Rattle.run_engine.specs.SegmentView.{SegmentView}
use Rattle.run_engine.specs.Segments.{ops_of, trace_of, marks_from, all_marks, has_mark, IsSegmentFrom, AreReplayFrom, AreFull, BeginsMarked, IsPiece}
use Rattle.run_engine.specs.Bounds.{AgreesAt}
use Rattle.run_engine.specs.Steps.{IsUntouchedStretch}
use Rattle.run_engine.specs.declared.replay.prefix.NextStretch.{NextStretch}

-- the segment is the first of the operations that go on from a state, and an old stretch that differs there only in what it doesn't touch
pub record IsTakenOver (old : List Operation) (marks : List ℕ) (start : State) (ops : List Operation) (s : SegmentView) : Type 0 where
  pub stretch : IsUntouchedStretch old marks start ops (length (ops_of s))
  pub piece : IsPiece start ops (s ∷ []) (end_from start (ops_of s)) (length (ops_of s))

-- so is each of the segments, where the one before it ends
abbrev pub AreTakenOver : List Operation → List ℕ → State → List Operation → List SegmentView → Type 0
AreTakenOver old marks start ops [] = Unit {0}
AreTakenOver old marks start ops (s ∷ segments) =
    IsTakenOver old marks start ops s × AreTakenOver old marks (end_from start (ops_of s)) (drop (length (ops_of s)) ops) segments

-- the keys that a segment touches are known, and its operations may be passed under the layer, with these outcomes then
pub record IsClear (s : SegmentView) (l : LayerView) (before after : Holders) (outcomes : List Outcome) : Type 0 where
  pub told : List Key
  pub known : Some told ≡ s.keys
  pub passed : MayBePassed l before after (set_of (with_names told s.ops s.outcomes)) s.ops s.outcomes outcomes
  pub names : flat_map outcome_keys outcomes ≡ flat_map outcome_keys s.outcomes

-- a replay is on its way under a layer at the old segment at an index, with a new state there, and the operations from there on may be carried out from
-- that
pub record CanBeUnder (old : List SegmentView) (l : LayerView) (h : Holders) (i : ℕ) (new : State) : Type 0 where
  pub within : i < length old
  pub way : IsUnderWay l h (end_from nothing_held (trace_of (take i old))) new
  pub unused : AreUnused new (trace_of (drop i old))

-- there is such a state
pub record MayBeUnder (old : List SegmentView) (l : LayerView) (h : Holders) (i : ℕ) : Type 0 where
  pub new : State
  pub is : CanBeUnder old l h i new

-- the old segment at an index is taken over, where a replay is on its way under a layer: so it is behind it, too, and a difference among the layer's keys
-- stays
pub record IsUnder (old : List SegmentView) (l : LayerView) (h : Holders) (i : ℕ) (start : State) (s : SegmentView) : Type 0 where
  pub begins : BeginsMarked (drop (i + 1) old)
  pub taken : IsTakenOver (trace_of old) (all_marks old) start (trace_of (drop i old)) s
  pub trace : trace_of (drop i old) ≡ ops_of s ++ trace_of (drop (i + 1) old)
  pub way : IsUnderWay l h (end_from nothing_held (trace_of (take (i + 1) old))) (end_from start (ops_of s))
  pub differs : (d : KeySet) → AreAmong d l → IsDifference d (end_from nothing_held (trace_of (take i old))) start → IsDifference d (end_from nothing_held (trace_of (take (i + 1) old))) (end_from start (ops_of s))
  pub unused : AreUnused (end_from start (ops_of s)) (trace_of (drop (i + 1) old))

-- segments that are taken over in place of the old ones from an index on, where a layer makes the state there new: it makes the state behind
-- them new, too, and a difference among its keys stays
pub record AreUnder (old : List SegmentView) (l : LayerView) (index : ℕ) (start : State) (segments : List SegmentView) : Type 0 where
  pub within : index + length segments ≤ length old
  pub begins : BeginsMarked (drop (index + length segments) old)
  pub taken : AreTakenOver (trace_of old) (all_marks old) start (trace_of (drop index old)) segments
  pub trace : trace_of (drop index old) ≡ trace_of segments ++ trace_of (drop (index + length segments) old)
  pub laid : IsLaidBy l (end_from nothing_held (trace_of (take (index + length segments) old))) (end_from start (trace_of segments))
  pub differs : (d : KeySet) → AreAmong d l → IsDifference d (end_from nothing_held (trace_of (take index old))) start
      → IsDifference d (end_from nothing_held (trace_of (take (index + length segments) old))) (end_from start (trace_of segments))
  pub unused : AreUnused (end_from start (trace_of segments)) (trace_of (drop (index + length segments) old))

-- what a replay goes on with is such segments, and the state behind them; where they are more than one, it doesn't agree there with the old
-- run
pub record AreNext (old : List SegmentView) (index : ℕ) (start : State) (next : NextStretch) : Type 0 where
  pub some : 0 < length next.segments
  pub within : index + length next.segments ≤ length old
  pub taken : AreTakenOver (trace_of old) (all_marks old) start (trace_of (drop index old)) next.segments
  pub trace : trace_of (drop index old) ≡ trace_of next.segments ++ trace_of (drop (index + length next.segments) old)
  pub len_is : next.len ≡ length (trace_of next.segments)
  pub end_is : next.end ≡ end_from start (trace_of next.segments)
  pub apart : 1 < length next.segments → ¬ (Agree next.end (end_from nothing_held (trace_of (take (index + length next.segments) old))))

-- the old segment at an index goes on from a new state, where a replay is on its way under a layer, with a checkpoint there or without: it reads the same
-- in both, so the replay is on its way behind it, too, and a difference among the layer's keys stays
pub record IsPassedOver (old : List SegmentView) (l : LayerView) (h : Holders) (i : ℕ) (new : State) (marked : Bool) (s : SegmentView) : Type 0 where
  pub mark : is_some s.mark ≡ marked
  pub segment : IsSegmentFrom new s
  pub full : 0 < length (ops_of s)
  pub trace : trace_of (drop i old) ≡ ops_of s ++ trace_of (drop (i + 1) old)
  pub end_is : end_from nothing_held (trace_of (take (i + 1) old)) ≡ end_from (end_from nothing_held (trace_of (take i old))) (ops_of s)
  pub same : ReadTheSame l (end_from nothing_held (trace_of (take i old))) (ops_of s)
  pub way : IsUnderWay l h (end_from nothing_held (trace_of (take (i + 1) old))) (end_from new (ops_of s))
  pub differs : (d : KeySet) → AreAmong d l → IsDifference d (end_from nothing_held (trace_of (take i old))) new → IsDifference d (end_from nothing_held (trace_of (take (i + 1) old))) (end_from new (ops_of s))
  pub unused : AreUnused (end_from new (ops_of s)) (trace_of (drop (i + 1) old))

-- segments that are taken over as a part of an old stretch, in place of the old ones from an index on, where a layer makes the state there new: the
-- first has a checkpoint, and no other, nor has one of the old ones behind the first
pub record IsPartUnder (old : List SegmentView) (l : LayerView) (index : ℕ) (start : State) (segments : List SegmentView) : Type 0 where
  pub within : index + length segments ≤ length old
  pub replay : AreReplayFrom start segments
  pub full : AreFull segments
  pub begins : BeginsMarked segments
  pub bare : (at : ℕ) → marks_from at (drop 1 segments) ≡ []
  pub old_bare : (at : ℕ) → marks_from at (take (length segments - 1) (drop (index + 1) old)) ≡ []
  pub trace : trace_of (drop index old) ≡ trace_of segments ++ trace_of (drop (index + length segments) old)
  pub end_is : end_from nothing_held (trace_of (take (index + length segments) old)) ≡ end_from (end_from nothing_held (trace_of (take index old))) (trace_of segments)
  pub same : ReadTheSame l (end_from nothing_held (trace_of (take index old))) (trace_of segments)
  pub laid : IsLaidBy l (end_from nothing_held (trace_of (take (index + length segments) old))) (end_from start (trace_of segments))
  pub differs : (d : KeySet) → AreAmong d l → IsDifference d (end_from nothing_held (trace_of (take index old))) start
      → IsDifference d (end_from nothing_held (trace_of (take (index + length segments) old))) (end_from start (trace_of segments))
  pub unused : AreUnused (end_from start (trace_of segments)) (trace_of (drop (index + length segments) old))

-- so many old segments from an index on begin and end where old stretches do
pub record IsWhole (old : List SegmentView) (index count : ℕ) : Type 0 where
  pub begins : has_mark old index ≡ true
  pub ends : BeginsMarked (drop (index + count) old)

-- a replay that goes on from one position to another, beside the old run from `at` on, passes none of these old positions
abbrev pub PassesNone : List ℕ → (at from to : ℕ) → Type 0
PassesNone marks at from to = (p : ℕ) → Contains marks p → at < p → p - at + from < to → ⊥

-- what a replay goes on with is a part of an old stretch, from the segment at an index on
pub record IsNextPart (old : List SegmentView) (index : ℕ) (start : State) (next : NextStretch) : Type 0 where
  pub some : 0 < length next.segments
  pub within : index + length next.segments ≤ length old
  pub stretch : IsUntouchedStretch (trace_of old) (all_marks old) start (trace_of (drop index old)) next.len
  pub piece : IsPiece start (trace_of (drop index old)) next.segments next.end next.len
  pub trace : trace_of (drop index old) ≡ trace_of next.segments ++ trace_of (drop (index + length next.segments) old)
  pub len_is : next.len ≡ length (trace_of next.segments)
  pub end_is : next.end ≡ end_from start (trace_of next.segments)
  pub none : (at to : ℕ) → length (trace_of (take index old)) ≡ at → PassesNone (all_marks old) at to (to + next.len)

-- the replay of an edited trace went on from one position to another, the first at an old one: from the next segment on the states agree nowhere
-- between
abbrev pub IsPast : (old ops : List Operation) (at next from to : ℕ) → Type 0
IsPast old ops at next from to = (p : ℕ) → next ≤ p → p - at + from < to → ¬ (AgreesAt old ops at from p)

-- the same of old checkpoints alone
abbrev pub IsPastMarks : (old ops : List Operation) (marks : List ℕ) (at next from to : ℕ) → Type 0
IsPastMarks old ops marks at next from to = (p : ℕ) → Contains marks p → next ≤ p → p - at + from < to → ¬ (AgreesAt old ops at from p)

-- segments that are taken over while a replay is on its way under a layer: so it is behind them, too
pub record AreOnWay (old : List SegmentView) (l : LayerView) (h : Holders) (index : ℕ) (start : State) (segments : List SegmentView) : Type 0 where
  pub under : AreUnder old l index start segments
  pub way : IsUnderWay l h (end_from nothing_held (trace_of (take (index + length segments) old))) (end_from start (trace_of segments))

-- the same of segments that are taken over as a part of an old stretch
pub record IsPartOnWay (old : List SegmentView) (l : LayerView) (h : Holders) (index : ℕ) (start : State) (segments : List SegmentView) : Type 0 where
  pub part : IsPartUnder old l index start segments
  pub way : IsUnderWay l h (end_from nothing_held (trace_of (take (index + length segments) old))) (end_from start (trace_of segments))
