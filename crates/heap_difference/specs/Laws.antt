-- The laws of differences (profile of this project).
use Rattle.std.specs.Prelude.{◌≡◌, List, [], ◌++◌, true, false, IsTrue}
use Rattle.trace_types.specs.Operation.{Operation}
use Rattle.trace_types.specs.Trace.{has_distinct_numbers}
use Rattle.ownership_model.specs.declared.key.Key.{Key}
use Rattle.ownership_model.specs.State.{State, IsSound}
use Rattle.ownership_model.specs.Step.{outcomes_from, end_from, AreUnused}
use Rattle.ownership_model.specs.Alike.{AreWithin, IsKeptOutside, AreCountsKeptOutside}
use Rattle.ownership_model.specs.Footprint.{footprints_from, moved_from}
use Rattle.heap_difference.specs.declared.key_set.KeySet.{KeySet}
use Rattle.heap_difference.specs.KeySets.{nothing, is_among, meet}
use Rattle.heap_difference.specs.Differences.{outside, IsDifference, HasDifference}

-- the set has all that operations touch, move or copy
abbrev pub HasTouched : KeySet → State → List Operation → Type 0
HasTouched keys m ops = AreWithin (is_among keys) (footprints_from m ops ++ moved_from m ops)

-- What is known of operations that touch nothing that differs: they do the same in both states, the difference is behind them what it
-- was before them, and what stands at its keys stays in each
pub record IsPassed (d : KeySet) (old new : State) (ops : List Operation) : Type 0 where
  pub outcomes : outcomes_from old ops ≡ outcomes_from new ops
  pub difference : IsDifference d (end_from old ops) (end_from new ops)
  pub footprints : footprints_from old ops ≡ footprints_from new ops
  pub moved : moved_from old ops ≡ moved_from new ops
  pub old_stays : IsKeptOutside (outside d) old (end_from old ops)
  pub new_stays : IsKeptOutside (outside d) new (end_from new ops)
  pub old_counts : AreCountsKeptOutside (outside d) old (end_from old ops)
  pub new_counts : AreCountsKeptOutside (outside d) new (end_from new ops)

-- so it is wherever the keys of the operations and those of the difference have none in common
abbrev pub StretchesPass : Type 0
StretchesPass = (d keys : KeySet) (old new : State) (ops : List Operation) → IsDifference d old new → HasTouched keys old ops → meet d keys ≡ false
    → IsSound old [] → IsSound new [] → IsTrue (has_distinct_numbers ops) → AreUnused old ops → AreUnused new ops → IsPassed d old new ops

-- Where each of two states goes on by operations of its own, the difference behind them is among what it was and what they touch, move
-- or copy. A state has no difference from itself; where the difference has no key, two sound states are one
pub record DifferencesHold : Type 0 where
  pub same : (d : KeySet) (m : State) → IsDifference d m m
  pub equal : (old new : State) → IsSound old [] → IsSound new [] → IsDifference nothing old new → old ≡ new
  pub among : (d keys : KeySet) (old new : State) (ops more : List Operation) → IsDifference d old new → ((x : Key) → is_among d x ≡ true → is_among keys x ≡ true)
      → HasTouched keys old ops → IsSound old [] → IsTrue (has_distinct_numbers ops) → AreUnused old ops
      → HasTouched keys new more → IsSound new [] → IsTrue (has_distinct_numbers more) → AreUnused new more
      → HasDifference keys (end_from old ops) (end_from new more)
