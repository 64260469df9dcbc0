-- Objects that are alive in two states with as many fields: how their counts differ, and what the fields hold that differ (profile of this
-- project).
use Rattle.std.specs.Prelude.{ℕ, ◌≡◌, ◌+◌, ◌-◌, ◌^◌, ◌≤◌, ◌==◌, ◌&&◌, ◌++◌, ◌⊎◌, min, List, [], ◌∷◌, length, Option, Some, None, Bool, true, false, if◌then◌else◌, slice_get}
use Rattle.std.specs.List.{AllByRecursion, list_any}
use Rattle.std.specs.FinMap.{get}
use Rattle.trace_types.specs.declared.slots.Slot.{Slot}
use Rattle.trace_types.specs.declared.slots.Entry.{Entry}
use Rattle.trace_types.specs.declared.slots.Entry.TheVariants.{Alive, Husk}
use Rattle.trace_types.specs.declared.outcomes.Counts.{Counts}
use Rattle.trace_types.specs.declared.outcomes.Outcome.{Outcome}
use Rattle.ownership_model.specs.State.{State, strong, weak}
use Rattle.ownership_model.specs.Bounds.{max_slots}
use Rattle.ownership_model.specs.Table.{fields_of}
use Rattle.ownership_model.specs.Near.{AreFieldsNear, AreEntriesNear}
use Rattle.object_heap.specs.declared.put.FieldPut.{FieldPut}
use Rattle.heap_difference.specs.declared.shifts.Shift.{Shift}

-- whether both are alive, with as many fields
abbrev pub are_fields_as_many : Option Entry → Option Entry → Bool
are_fields_as_many (Some (Alive before)) (Some (Alive fields)) = length before == length fields
are_fields_as_many (Some (Alive before)) (Some Husk) = false
are_fields_as_many (Some (Alive before)) None = false
are_fields_as_many (Some Husk) e = false
are_fields_as_many None e = false

-- whether an object is alive in both states, with as many fields
abbrev pub may_be_alike : (old new : State) → ℕ → Bool
may_be_alike old new o = are_fields_as_many (get old.objects o) (get new.objects o)

-- the shift of an object, if there is one
abbrev pub shift_of : List Shift → ℕ → Option Shift
shift_of [] o = None
shift_of (s ∷ shifts) o = if s.object == o then Some s else shift_of shifts o

-- whether an object has a shift
abbrev pub is_alike : List Shift → ℕ → Bool
is_alike shifts o = list_any (λ s. s.object == o) shifts

-- whether a field of an object is among these
abbrev pub is_loose : List FieldPut → ℕ → ℕ → Bool
is_loose fields o i = list_any (λ f. (f.object == o) && (f.index == i)) fields

-- counts that are told from the old state, as they are told from the new one
abbrev pub shifted_by : Option Shift → Counts → Counts
shifted_by None c = c
shifted_by (Some s) c = record {
  object = c.object;
  strong = min (c.strong + s.new_strong) (2 ^ 64 - 1) - s.old_strong;
  weak = min (c.weak + s.new_weak) (2 ^ 64 - 1) - s.old_weak;
}

abbrev pub shifted : List Shift → Counts → Counts
shifted shifts c = shifted_by (shift_of shifts c.object) c

-- so it is of the counts that an outcome tells, if it tells any
abbrev pub shifted_in : List Shift → Option Counts → Option Counts
shifted_in shifts None = None
shifted_in shifts (Some c) = Some (shifted shifts c)

abbrev pub shifted_outcome : List Shift → Outcome → Outcome
shifted_outcome shifts x = record x { counts = shifted_in shifts x.counts }

-- between both states an object's counts differ as they do in the shift
pub record IsShift (s : Shift) (old new : State) : Type 0 where
  pub strongs : strong new [] s.object + s.old_strong ≡ strong old [] s.object + s.new_strong
  pub weaks : weak new [] s.object + s.old_weak ≡ weak old [] s.object + s.new_weak

abbrev pub AreShifts : List Shift → (old new : State) → Type 0
AreShifts shifts old new = AllByRecursion (λ s. IsShift s old new) shifts

-- the counts of a shift are those of states within the limits
pub record IsSmall (s : Shift) : Type 0 where
  pub old_strong : s.old_strong ≤ max_slots
  pub new_strong : s.new_strong ≤ max_slots
  pub old_weak : s.old_weak ≤ max_slots
  pub new_weak : s.new_weak ≤ max_slots

-- the fields hold this
abbrev pub HoldFields : List FieldPut → State → Type 0
HoldFields fields m = AllByRecursion (λ f. slice_get (fields_of (get m.objects f.object)) f.index ≡ Some f.slot) fields

-- each field holds something else in the old state
abbrev pub DoFieldsDiffer : List FieldPut → State → Type 0
DoFieldsDiffer fields old = AllByRecursion (λ f. slice_get (fields_of (get old.objects f.object)) f.index ≡ Some f.slot → ⊥) fields

-- each field is one of an object that has a shift
abbrev pub AreOfAlikes : List Shift → List FieldPut → Type 0
AreOfAlikes shifts fields = AllByRecursion (λ f. is_alike shifts f.object ≡ true) fields

-- each object with a shift is alive in both, with as many fields, and where one differs it is among these
abbrev pub AreEntriesAlike : List Shift → List FieldPut → (old new : State) → Type 0
AreEntriesAlike shifts fields old new = (o : ℕ) → is_alike shifts o ≡ true → AreEntriesNear (is_loose fields o) (get old.objects o) (get new.objects o)

-- What is kept of some objects of two states: each is alive in both, with as many fields; the counts and fields are those of the states
pub record AreAlikes (shifts : List Shift) (fields : List FieldPut) (old new : State) : Type 0 where
  pub near : AreEntriesAlike shifts fields old new
  pub counts : AreShifts shifts old new
  pub small : AllByRecursion IsSmall shifts
  pub holds : HoldFields fields new
  pub own : AreOfAlikes shifts fields

-- For private functions alone: o is an object of the shifts, or the one that joins them
abbrev pub IsOneMore : List Shift → ℕ → ℕ → Type 0
IsOneMore shifts object o = (is_alike shifts o ≡ true) ⊎ (o ≡ object)

-- For private functions alone: these fields of an object come behind those before: each holds what it is to hold, and they are those that differ
pub record AreAdded (object : ℕ) (before fields : List Slot) (old new : List FieldPut) : Type 0 where
  pub added : List FieldPut
  pub new_is : new ≡ old ++ added
  pub own : AllByRecursion (λ f. f.object ≡ object) added
  pub holds : AllByRecursion (λ f. slice_get fields f.index ≡ Some f.slot) added
  pub differ : AllByRecursion (λ f. slice_get before f.index ≡ Some f.slot → ⊥) added
  pub near : AreFieldsNear (is_loose added object) before fields
