-- Operations that are passed under a layer, one stretch after another (profile of this project).
use Rattle.std.specs.Prelude.{ℕ, ◌≡◌, ◌⊎◌, List, [], ◌++◌, Bool, true, false, IsTrue}
use Rattle.trace_types.specs.declared.slots.Slot.TheVariants.{Strong}
use Rattle.trace_types.specs.declared.outcomes.Outcome.{Outcome}
use Rattle.trace_types.specs.Operation.{Operation}
use Rattle.trace_types.specs.Trace.{has_distinct_numbers}
use Rattle.ownership_model.specs.declared.key.Key.{Key}
use Rattle.ownership_model.specs.State.{State, IsSound, names_alike}
use Rattle.ownership_model.specs.Step.{outcomes_from, end_from, AreUnused}
use Rattle.ownership_model.specs.Alike.{AreWithin}
use Rattle.ownership_model.specs.Footprint.{footprints_from, moved_from}
use Rattle.ownership_model.specs.Near.{is_object_of, weight_of_key, AreBlindFrom}
use Rattle.ownership_model.specs.Reach.{has}
use Rattle.heap_difference.specs.declared.key_set.KeySet.{KeySet}
use Rattle.heap_difference.specs.declared.holders.Holders.{Holders}
use Rattle.heap_difference.specs.KeySets.{is_among}
use Rattle.heap_difference.specs.Differences.{IsDifference}
use Rattle.heap_difference.specs.Alikes.{is_alike, is_loose, AreShifts}
use Rattle.heap_difference.specs.Blind.{are_blind}
use Rattle.heap_difference.specs.Holders.{IsCountedIn, AreOfLessened, MustPass}
use Rattle.heap_difference.specs.Laws.{HasTouched}
use Rattle.heap_difference.specs.Puts.{DoUndersStay}
use Rattle.heap_difference.specs.Laid.{beside_firm}
use Rattle.heap_difference.specs.Layers.{LayerView, IsLaidBy, AreAmong}

-- of the layer's keys the set has only objects that have a shift; and the handles under those that are put in stay
pub record IsFirmlyApart (l : LayerView) (keys : KeySet) (ops : List Operation) : Type 0 where
  pub firm : (x : Key) → is_among keys x ≡ true → is_among l.keys x ≡ true → is_object_of (is_alike l.shifts) x ≡ true
  pub unders : DoUndersStay keys ops l.puts

-- A replay is on its way under a layer: the layer makes the new state of the old one, the counts of its objects differ as they do in the shifts, the keys
-- of a set are those that were set on the way, and elsewhere each object that has fewer Arcs has those that it had
pub record IsOnWay (l : LayerView) (t : Key → Bool) (h : Holders) (old new : State) : Type 0 where
  pub laid : IsLaidBy l old new
  pub counts : AreShifts l.shifts old new
  pub lessened : AreOfLessened l.shifts h
  pub counted : IsCountedIn t l.from h
  pub held : (o : ℕ) → has o h.objects.objects ≡ true → (x : Key) → t x ≡ false → weight_of_key (names_alike (Strong o)) new x ≡ weight_of_key (names_alike (Strong o)) l.from x

-- it is so for some set
pub record IsUnderWay (l : LayerView) (h : Holders) (old new : State) : Type 0 where
  pub set : Key → Bool
  pub is : IsOnWay l set h old new

-- Operations that touch and set these keys have to be passed: of the layer's keys they touch only objects that have a shift, read of these nothing that
-- differs, and beside what they set each object that has fewer Arcs still has one
pub record MustBePassed (l : LayerView) (h : Holders) (keys sets : KeySet) (ops : List Operation) (outcomes : List Outcome) : Type 0 where
  pub apart : IsFirmlyApart l keys ops
  pub same : (l.shifts ≡ []) ⊎ ((are_blind l.shifts l.fields ops outcomes ≡ true) × MustPass keys sets l.from h)

-- what operations touch from the old state is alike in the new one, but for objects that have a shift, and of these they read nothing that differs
pub record ReadTheSame (l : LayerView) (old : State) (ops : List Operation) : Type 0 where
  pub within : AreWithin (beside_firm l.keys l.shifts) (footprints_from old ops ++ moved_from old ops)
  pub blind : AreBlindFrom (is_alike l.shifts) (is_loose l.fields) old ops

-- Operations were passed: these are their outcomes from the new state, the replay is still on its way behind them, they touch the same in both, and a
-- difference among the layer's keys stays
pub record ArePassed (l : LayerView) (h : Holders) (told : List Outcome) (old new : State) (ops : List Operation) : Type 0 where
  pub outcomes : told ≡ outcomes_from new ops
  pub way : IsUnderWay l h (end_from old ops) (end_from new ops)
  pub footprints : footprints_from old ops ≡ footprints_from new ops
  pub moved : moved_from old ops ≡ moved_from new ops
  pub same : ReadTheSame l old ops
  pub differs : (d : KeySet) → AreAmong d l → IsDifference d old new → IsDifference d (end_from old ops) (end_from new ops)

-- where a replay is on its way, operations of these numbers may follow in both states
pub record MayFollow (old new : State) (ops : List Operation) : Type 0 where
  pub sound : IsSound old []
  pub distinct : IsTrue (has_distinct_numbers ops)
  pub unused : AreUnused old ops
  pub new_unused : AreUnused new ops

-- operations with these outcomes, which touch these keys, are passed from whatever states a replay is on its way
abbrev pub MayBePassed : LayerView → (before after : Holders) → KeySet → List Operation → (outcomes told : List Outcome) → Type 0
MayBePassed l before after keys ops outcomes told =
    (old new : State) → IsUnderWay l before old new → HasTouched keys old ops → outcomes ≡ outcomes_from old ops → MayFollow old new ops → ArePassed l after told old new ops
