-- The segments of a run.
use Rattle.std.specs.Prelude.{◌≡◌, ℕ, zero, suc, ◌+◌, ◌<◌, ◌≤◌, List, [], ◌∷◌, ◌++◌, length, take, Option, Some, None, is_some, IfSome, IsTrue, Contains, Bool, false, filter, not, nat_eq}
use Rattle.std.specs.List.{AllByRecursion}
use Rattle.trace_types.specs.Trace.{IsTrace}
use Rattle.ownership_model.specs.State.{State, nothing_held}
use Rattle.trace_types.specs.Operation.{Operation}
use Rattle.trace_types.specs.declared.outcomes.Outcome.{Outcome}
use Rattle.run_engine.specs.SegmentView.{SegmentView}
use Rattle.run_engine.specs.Marks.{IsGreatest}
use Rattle.ownership_model.specs.Step.{end_from, outcomes_from}
use Rattle.ownership_model.specs.declared.key.Key.{Key}
use Rattle.heap_difference.specs.KeySets.{set_of}
use Rattle.heap_difference.specs.Laws.{HasTouched}
use Rattle.heap_difference.specs.Naming.{with_names}

-- the operations of a segment
abbrev pub ops_of : SegmentView → List Operation
ops_of s = s.ops

-- the operations of all segments
abbrev pub trace_of : List SegmentView → List Operation
trace_of [] = []
trace_of (s ∷ segments) = ops_of s ++ trace_of segments

-- the position, where a checkpoint is kept there
abbrev pub mark_here : ℕ → Option State → List ℕ
mark_here at None = []
mark_here at (Some m) = at ∷ []

-- the positions of the checkpoints, where the first segment begins at `at`
abbrev pub marks_from : ℕ → List SegmentView → List ℕ
marks_from at [] = []
marks_from at (s ∷ segments) = mark_here at s.mark ++ marks_from (at + length (ops_of s)) segments

-- with what operations and their outcomes name, keys that were told of them have all that the operations touch, move or copy from a state
abbrev pub AreKeysFrom : State → Option (List Key) → List Operation → List Outcome → Type 0
AreKeysFrom m keys ops outcomes = IfSome keys (λ k. HasTouched (set_of (with_names k ops outcomes)) m ops)

-- the segment's checkpoint, if it is kept, is the state m, and so is its anchor, its outcomes are those from there, and its keys, if they are
-- known, have all that its operations touch from there
pub record IsSegmentFrom (m : State) (s : SegmentView) : Type 0 where
  pub mark : IfSome s.mark (λ n. n ≡ m)
  pub anchor : IfSome s.anchor (λ n. n ≡ m)
  pub keys : AreKeysFrom m s.keys (ops_of s) s.outcomes
  pub outcomes : s.outcomes ≡ outcomes_from m (ops_of s)

-- the segments are a replay from m
abbrev pub AreReplayFrom : State → List SegmentView → Type 0
AreReplayFrom m [] = Unit {0}
AreReplayFrom m (s ∷ segments) = IsSegmentFrom m s × AreReplayFrom (end_from m (ops_of s)) segments

-- the outcomes of all segments
abbrev pub outcomes_in : List SegmentView → List Outcome
outcomes_in [] = []
outcomes_in (s ∷ segments) = s.outcomes ++ outcomes_in segments

-- the segments, where the one at i has no checkpoint
abbrev pub without_mark : List SegmentView → ℕ → List SegmentView
without_mark [] i = []
without_mark (s ∷ segments) zero = record s { mark = None } ∷ segments
without_mark (s ∷ segments) (suc i) = s ∷ without_mark segments i

-- no segment is empty
abbrev pub AreFull : List SegmentView → Type 0
AreFull segments = AllByRecursion (λ s. 0 < length s.ops) segments

-- the first segment, where there is one, has its checkpoint
abbrev pub BeginsMarked : List SegmentView → Type 0
BeginsMarked [] = Unit {0}
BeginsMarked (s ∷ segments) = IsTrue (is_some s.mark)

-- segments that go on from a state, and the state after them
pub record IsRunFrom (start : State) (segments : List SegmentView) (end : State) : Type 0 where
  pub replay : AreReplayFrom start segments
  pub full : AreFull segments
  pub begins : BeginsMarked segments
  pub state : end ≡ end_from start (trace_of segments)

-- so from the beginning
abbrev pub IsRun : List SegmentView → State → Type 0
IsRun segments end = IsRunFrom nothing_held segments end

-- the segments are the replay of the first `at` operations
pub record IsReached (ops : List Operation) (at : ℕ) (segments : List SegmentView) (end : State) : Type 0 where
  pub within : at ≤ length ops
  pub trace : trace_of segments ≡ take at ops
  pub replay : AreReplayFrom nothing_held segments
  pub full : AreFull segments
  pub begins : BeginsMarked segments
  pub state : end ≡ end_from nothing_held (take at ops)

-- segments that go on from a state, with a checkpoint where they begin and no other
pub record IsPiece (start : State) (ops : List Operation) (segments : List SegmentView) (end : State) (len : ℕ) : Type 0 where
  pub some : 0 < len
  pub fits : len ≤ length ops
  pub trace : trace_of segments ≡ take len ops
  pub replay : AreReplayFrom start segments
  pub full : AreFull segments
  pub begins : BeginsMarked segments
  pub state : end ≡ end_from start (take len ops)
  pub marks : (at : ℕ) → marks_from at segments ≡ at ∷ []

-- operations that go on from a state, with no checkpoint where they begin, but maybe an anchor, and with keys that were told of them
abbrev pub bare_segment : Option State → State → List Key → List Operation → SegmentView
bare_segment anchor start keys ops = record { mark = None; anchor = anchor; keys = Some keys; ops = ops; outcomes = outcomes_from start ops }

-- the segments are others, and such a one behind them
pub record HasBare (segments : List SegmentView) (anchor : Option State) (start : State) (ops : List Operation) (more : List SegmentView) : Type 0 where
  pub keys : List Key
  pub touched : AreKeysFrom start (Some keys) ops (outcomes_from start ops)
  pub segments_are : more ≡ segments ++ bare_segment anchor start keys ops ∷ []

-- the positions of all checkpoints: the end is one
abbrev pub all_marks : List SegmentView → List ℕ
all_marks segments = marks_from 0 segments ++ length (trace_of segments) ∷ []

-- the greatest kept checkpoint at or before the head: the segment i begins at `at`, with the heap there
pub record IsRestart (segments : List SegmentView) (head i at : ℕ) (heap : State) : Type 0 where
  pub within : i ≤ length segments
  pub place : length (trace_of (take i segments)) ≡ at
  pub greatest : IsGreatest (all_marks segments) head at
  pub heap_is : heap ≡ end_from nothing_held (trace_of (take i segments))

-- what is true of each run
pub record IsKept (segments : List SegmentView) (end : State) : Type 0 where
  pub run : IsRun segments end
  pub trace : IsTrace (trace_of segments)

-- whether the segment at i has its checkpoint
abbrev pub has_mark : List SegmentView → ℕ → Bool
has_mark [] i = false
has_mark (s ∷ segments) zero = is_some s.mark
has_mark (s ∷ segments) (suc i) = has_mark segments i

-- an inner checkpoint
pub record IsInner (marks : List ℕ) (n p : ℕ) : Type 0 where
  pub mark : Contains marks p
  pub behind : 0 < p
  pub before : p < n

-- the checkpoints without p
abbrev pub without : ℕ → List ℕ → List ℕ
without p marks = filter (λ q. not (nat_eq q p)) marks

-- no checkpoint of the segments stands at p
abbrev pub IsNoMark : List SegmentView → ℕ → Type 0
IsNoMark segments p = Contains (marks_from 0 segments) p → ⊥

-- the segment at i begins at `at`, at or before a position, and has it, where it isn't behind all
pub record IsLastFrom (segments : List SegmentView) (position i at : ℕ) : Type 0 where
  pub within : i ≤ length segments
  pub place : length (trace_of (take i segments)) ≡ at
  pub before : at ≤ position
  pub inside : position < length (trace_of segments) → (i < length segments) × (position < length (trace_of (take (i + 1) segments)))
