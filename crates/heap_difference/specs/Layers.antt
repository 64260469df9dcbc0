-- What stands in a state at some keys, kept to be laid over older states (profile of this project).
use Rattle.std.specs.Prelude.{ℕ, ◌≡◌, List, [], map, true, false, refl, IsTrue}
use Rattle.std.specs.Coded.{Coded, code_by, coded×, coded_ℕ, coded_list}
use Rattle.trace_types.specs.declared.slots.Slot.{Slot}
use Rattle.trace_types.specs.Operation.{Operation}
use Rattle.trace_types.specs.Trace.{has_distinct_numbers}
use Rattle.ownership_model.specs.declared.key.Key.{Key}
use Rattle.ownership_model.specs.State.{State, IsSound}
use Rattle.ownership_model.specs.Step.{outcomes_from, end_from, AreUnused}
use Rattle.ownership_model.specs.Footprint.{footprints_from, moved_from}
use Rattle.ownership_model.specs.Alike.{AreWithin, IsKeptOutside}
use Rattle.ownership_model.specs.Sets.{sets_from}
use Rattle.ownership_model.specs.Near.{is_object_of, weight_of_key, AreKeptAlive, AreBlindFrom, recounted}
use Rattle.ownership_model.specs.Reach.{has}
use Rattle.object_heap.specs.declared.put.Put.{Put}
use Rattle.object_heap.specs.declared.put.FieldPut.{FieldPut}
use Rattle.object_heap.specs.contracts.put.Put as put
use Rattle.object_heap.specs.contracts.put.FieldPut as field
use Rattle.object_heap.specs.Laid.{laid_over, with_fields}
use Rattle.object_heap.specs.StateCode.{state_code}
use Rattle.heap_difference.specs.declared.key_set.KeySet.{KeySet}
use Rattle.heap_difference.specs.declared.shifts.Shift.{Shift}
use Rattle.heap_difference.specs.contracts.shifts.Shift as shift
use Rattle.heap_difference.specs.KeySets.{is_among}
use Rattle.heap_difference.specs.Differences.{IsDifference}
use Rattle.heap_difference.specs.Alikes.{is_alike, is_loose, AreShifts, AreEntriesAlike, HoldFields}
use Rattle.heap_difference.specs.Laws.{HasTouched}
use Rattle.heap_difference.specs.Puts.{ArePuts, DoUndersStay}
use Rattle.heap_difference.specs.Laid.{IsLaid, IsWhole}

-- Keys, the state that has what is laid at them, and its handles among them, with where they stand. Of its objects the firm ones are laid whole; of
-- the others, which have a shift, these fields
pub record LayerView : Type 0 where
  pub keys : KeySet
  pub firm : List ℕ
  pub from : State
  pub puts : List Put
  pub shifts : List Shift
  pub fields : List FieldPut

-- a set of keys as the tuple of its four lists
abbrev pub key_set_code : Coded KeySet
key_set_code =
    code_by (List ℕ × (List ℕ × (List ℕ × List ℕ)))
    (coded× (coded_list coded_ℕ) (coded× (coded_list coded_ℕ) (coded× (coded_list coded_ℕ) (coded_list coded_ℕ))))
    (λ d. (d.handles, (d.cells, (d.objects, d.labels)))) (λ p. record { handles = p.0; cells = p.1.0; objects = p.1.1.0; labels = p.1.1.1 }) (λ _. refl)

-- by which a proof tells layers apart
abbrev pub layer_code : Coded LayerView
layer_code =
    code_by (KeySet × (List ℕ × (State × (List Put × (List Shift × List FieldPut)))))
    (coded× key_set_code (coded× (coded_list coded_ℕ) (coded× state_code (coded× (coded_list put.the_row.coded) (coded× (coded_list shift.the_row.coded) (coded_list field.the_row.coded))))))
    (λ l. (l.keys, (l.firm, (l.from, (l.puts, (l.shifts, l.fields))))))
    (λ p. record { keys = p.0; firm = p.1.0; from = p.1.1.0; puts = p.1.1.1.0; shifts = p.1.1.1.1.0; fields = p.1.1.1.1.1 }) (λ _. refl)

-- what is true of each layer
abbrev pub IsLayer : LayerView → Type 0
IsLayer l = IsWhole l.keys l.firm l.shifts l.fields

-- a state with the layer laid over it
abbrev pub with_layer : LayerView → State → State
with_layer l m = with_fields l.fields (laid_over l.from l.keys.handles l.keys.cells l.firm l.puts m)

-- the state m is the old one with the layer laid over it
pub record IsLaidBy (l : LayerView) (old m : State) : Type 0 where
  pub layer : IsLayer l
  pub is : IsLaid l.keys l.shifts l.fields old l.from l.puts m

-- there is such a state
pub record CanBeLaidBy (l : LayerView) (old : State) : Type 0 where
  pub state : State
  pub is : IsLaidBy l old state

-- all that another layer lays is laid by this one: it has its keys; what is firm there is firm here; and a field that is laid there is laid here, or its
-- object is firm
pub record Covers (l other : LayerView) : Type 0 where
  pub keys : (x : Key) → is_among other.keys x ≡ true → is_among l.keys x ≡ true
  pub firm : (o : ℕ) → has o other.keys.objects ≡ true → is_alike other.shifts o ≡ false → is_alike l.shifts o ≡ false
  pub fields : (o i : ℕ) → is_loose other.fields o i ≡ true → is_alike l.shifts o ≡ true → is_loose l.fields o i ≡ true

-- the keys are among those of the layer
abbrev pub AreAmong : KeySet → LayerView → Type 0
AreAmong d l = (x : Key) → is_among d x ≡ true → is_among l.keys x ≡ true

-- What operations touch and set may be passed under a layer: of its keys they touch only objects that have a shift, and read of these nothing that
-- differs; those that they touch stay alive in the new state; and the handles under those that are put in stay
pub record IsPassable (l : LayerView) (keys sets : KeySet) (old new : State) (ops : List Operation) : Type 0 where
  pub touched : HasTouched keys old ops
  pub set : AreWithin (is_among sets) (sets_from old ops)
  pub firm : (x : Key) → is_among keys x ≡ true → is_among l.keys x ≡ true → is_object_of (is_alike l.shifts) x ≡ true
  pub unders : DoUndersStay keys ops l.puts
  pub blind : AreBlindFrom (is_alike l.shifts) (is_loose l.fields) old ops
  pub alive : AreKeptAlive (is_among keys) (is_among sets) (is_alike l.shifts) old new

-- What is known of operations that were passed under a layer: their outcomes differ in counts that are told, the layer makes the new state behind them
-- of the old one, the counts of its objects differ there as before, they touch the same in both, what they don't touch stays in the new state, where they
-- set nothing as much stands there as stood, and a difference among its keys stays
pub record IsPassedUnder (l : LayerView) (keys sets : KeySet) (old new : State) (ops : List Operation) : Type 0 where
  pub outcomes : outcomes_from new ops ≡ map (recounted old new) (outcomes_from old ops)
  pub laid : IsLaidBy l (end_from old ops) (end_from new ops)
  pub counts : AreShifts l.shifts old new → AreShifts l.shifts (end_from old ops) (end_from new ops)
  pub footprints : footprints_from old ops ≡ footprints_from new ops
  pub moved : moved_from old ops ≡ moved_from new ops
  pub stays : IsKeptOutside (is_among keys) new (end_from new ops)
  pub still : (w : Slot → ℕ) (x : Key) → is_among sets x ≡ false → weight_of_key w (end_from new ops) x ≡ weight_of_key w new x
  pub differs : (d : KeySet) → AreAmong d l → IsDifference d old new → IsDifference d (end_from old ops) (end_from new ops)

-- What is known of layers. Where a state is an old one with a layer laid over it, it is what laying makes. A set with more keys than a difference is one
-- as well. What a state has at its difference from an old one can be laid over that, and makes the state itself. So it stays for what both become by
-- operations that may be passed. What makes the new state of a middle one makes it of an old one too, if all that makes the middle one of the old one is
-- covered by it
pub record LayersHold : Type 0 where
  pub made : (l : LayerView) (old m : State) → IsLaidBy l old m → IsSound old [] → with_layer l old ≡ m
  pub more : (d e : KeySet) (m n : State) → IsDifference d m n → ((x : Key) → is_among d x ≡ true → is_among e x ≡ true) → IsDifference e m n
  pub start : (l : LayerView) (old : State) → IsLayer l → IsDifference l.keys old l.from → AreEntriesAlike l.shifts l.fields old l.from → HoldFields l.fields l.from → IsSound l.from []
      → ArePuts (λ h. has h l.keys.handles) l.from l.puts → IsLaidBy l old l.from
  pub on : (l : LayerView) (keys sets : KeySet) (old new : State) (ops : List Operation) → IsLaidBy l old new → IsPassable l keys sets old new ops
      → IsSound old [] → IsTrue (has_distinct_numbers ops) → AreUnused old ops → AreUnused new ops → IsPassedUnder l keys sets old new ops
  pub through : (l other : LayerView) (old mid new : State) → IsLaidBy other old mid → Covers l other → IsLaidBy l mid new → IsLaidBy l old new
