-- The new state behind operations that touch nothing of a difference, made of the old one (profile of this project).
use Rattle.std.specs.Prelude.{ℕ, ◌≡◌, ◌&&◌, ◌||◌, List, [], not, Bool, true}
use Rattle.std.specs.List.{AllByRecursion}
use Rattle.ownership_model.specs.declared.key.Key.{Key}
use Rattle.ownership_model.specs.State.{State, IsSound}
use Rattle.ownership_model.specs.Alike.{IsKeptOutside}
use Rattle.ownership_model.specs.Near.{is_object_of}
use Rattle.ownership_model.specs.Reach.{has}
use Rattle.object_heap.specs.declared.put.Put.{Put}
use Rattle.object_heap.specs.declared.put.FieldPut.{FieldPut}
use Rattle.heap_difference.specs.declared.key_set.KeySet.{KeySet}
use Rattle.heap_difference.specs.declared.shifts.Shift.{Shift}
use Rattle.heap_difference.specs.Differences.{outside, IsDifference}
use Rattle.heap_difference.specs.Alikes.{is_alike, AreOfAlikes, IsSmall, AreEntriesAlike, HoldFields}
use Rattle.heap_difference.specs.Puts.{ArePuts}

-- the keys that are not in the set, and the objects that have a shift
abbrev pub beside_firm : KeySet → List Shift → Key → Bool
beside_firm d shifts x = is_object_of (is_alike shifts) x || outside d x

-- What is laid of objects: the firm ones are those of the set that have no shift; those that have one are in the set, with counts within the limits, and each field is one
-- of theirs
pub record IsWhole (d : KeySet) (whole : List ℕ) (shifts : List Shift) (fields : List FieldPut) : Type 0 where
  pub firm : (o : ℕ) → has o whole ≡ (has o d.objects && not (is_alike shifts o))
  pub alike : (o : ℕ) → is_alike shifts o ≡ true → has o d.objects ≡ true
  pub own : AreOfAlikes shifts fields
  pub small : AllByRecursion IsSmall shifts

-- The state m is the old one with the difference laid over it: the two differ at no other key. At the keys of the difference m has what an
-- earlier state of the new run has, and these are its handles among them, with where they stand; but of an object that has a shift only the fields
-- differ that are given, and hold this
pub record IsLaid (d : KeySet) (shifts : List Shift) (fields : List FieldPut) (old new : State) (puts : List Put) (m : State) : Type 0 where
  pub sound : IsSound m []
  pub difference : IsDifference d old m
  pub near : AreEntriesAlike shifts fields old m
  pub stays : IsKeptOutside (beside_firm d shifts) new m
  pub stand : ArePuts (λ h. has h d.handles) m puts
  pub holds : HoldFields fields m

-- there is such a state
pub record CanBeLaid (d : KeySet) (firm : List ℕ) (fields : List FieldPut) (old new : State) (puts : List Put) : Type 0 where
  pub shifts : List Shift
  pub state : State
  pub whole : IsWhole d firm shifts fields
  pub is : IsLaid d shifts fields old new puts state
