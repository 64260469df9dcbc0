-- Objects that are named less often in a new state, and how many of the slots that name them stand where nothing was set since (profile of
-- this project).
use Rattle.std.specs.Prelude.{ℕ, ◌≡◌, ◌<◌, ◌≤◌, ◌-◌, ◌==◌, nat_lt, ◌&&◌, ◌||◌, ◌⊎◌, List, [], ◌∷◌, Bool, true, false, map}
use Rattle.std.specs.List.{AllByRecursion, Contains, list_any}
use Rattle.std.specs.FinMap.{remove}
use Rattle.trace_types.specs.declared.slots.Slot.{Slot}
use Rattle.trace_types.specs.declared.slots.Slot.TheVariants.{Strong}
use Rattle.ownership_model.specs.declared.key.Key.{Key}
use Rattle.ownership_model.specs.declared.key.Key.TheVariants.{Handle, Cell, Object, Scope}
use Rattle.ownership_model.specs.State.{State, strong, names_alike, slots_weight}
use Rattle.ownership_model.specs.Near.{weight_of_key}
use Rattle.ownership_model.specs.Reach.{has}
use Rattle.heap_difference.specs.declared.key_set.KeySet.{KeySet}
use Rattle.heap_difference.specs.declared.holders.Holder.{Holder}
use Rattle.heap_difference.specs.declared.holders.Holders.{Holders}
use Rattle.heap_difference.specs.declared.shifts.Shift.{Shift}
use Rattle.heap_difference.specs.KeySets.{is_among, meet}
use Rattle.heap_difference.specs.Recents.{is_recent}

-- a state without what stands at a key
abbrev pub without_key : Key → State → State
without_key (Handle h) m = record m { handles = remove m.handles h }
without_key (Cell c) m = record m { cells = remove m.cells c }
without_key (Object o) m = record m { objects = remove m.objects o }
without_key (Scope t) m = m

-- a state without what stands at these keys
abbrev pub without_keys : List Key → State → State
without_keys [] m = m
without_keys (x ∷ keys) m = without_key x (without_keys keys m)

-- the slots that are left are those that name the object at keys that are still counted
abbrev pub IsLeft : State → List Key → Holder → Type 0
IsLeft from counted it = it.left ≡ strong (without_keys counted from) [] it.object

-- at the key no slot names one of the objects strongly
abbrev pub NamesNone : State → List Holder → Key → Type 0
NamesNone from items x = AllByRecursion (λ it. weight_of_key (names_alike (Strong it.object)) from x ≡ 0) items

-- no slot at the key is counted: it is no longer, or names none of the objects
abbrev pub IsSettled : State → Holders → Key → Type 0
IsSettled from h x = Contains h.counted.items x ⊎ NamesNone from h.items.items x

-- the slots of a set of keys are no longer counted, nor are those of handles that were met lately
pub record IsCountedIn (t : Key → Bool) (from : State) (h : Holders) : Type 0 where
  pub left : AllByRecursion (IsLeft from h.counted.items) h.items.items
  pub all : (x : Key) → t x ≡ true → IsSettled from h x
  pub recent : (q : ℕ) → is_recent h.recent q ≡ true → IsSettled from h (Handle q)

-- their objects
abbrev pub objects_of : List Holder → List ℕ
objects_of items = map (λ it. it.object) items

-- whether an object has a shift by which it is named less often in the new state
abbrev pub has_fewer : List Shift → ℕ → Bool
has_fewer shifts o = list_any (λ s. (s.object == o) && nat_lt s.new_strong s.old_strong) shifts

-- each of them has such a shift; and all objects that have a shift, and aren't among these, are named as often in the new state as in the old one, or
-- more often
pub record AreOfLessened (shifts : List Shift) (h : Holders) : Type 0 where
  pub others : AllByRecursion (λ s. has s.object h.objects.objects ≡ false → s.old_strong ≤ s.new_strong) shifts
  pub items : (o : ℕ) → has o h.objects.objects ≡ has o (objects_of h.items.items)
  pub inside : (o : ℕ) → has o h.objects.objects ≡ true → has_fewer shifts o ≡ true

-- of each object a slot is left
abbrev pub AreAllLeft : Holders → Type 0
AreAllLeft h = AllByRecursion (λ it. 0 < it.left) h.items.items

-- the slots at the keys of a set are no longer counted, and of each object one is left
pub record AreCountedOff (t : Key → Bool) (sets : KeySet) (from : State) (old new : Holders) : Type 0 where
  pub counted : IsCountedIn (λ x. t x || is_among sets x) from new
  pub left : AreAllLeft new
  pub objects : new.objects ≡ old.objects
  pub items : objects_of new.items.items ≡ objects_of old.items.items

-- operations that touch and set these keys were passed: either they touch none of the objects, or what they set is counted off
abbrev pub WerePassed : (Key → Bool) → (keys sets : KeySet) → State → (old new : Holders) → Type 0
WerePassed t keys sets from old new = ((meet old.objects keys ≡ false) × (new ≡ old)) ⊎ AreCountedOff t sets from old new

-- of no other keys are the slots no longer counted
abbrev pub IsNoMoreCounted : KeySet → (old new : Holders) → Type 0
IsNoMoreCounted sets old new = (x : Key) → Contains new.counted.items x → Contains old.counted.items x ⊎ (is_among sets x ≡ true)

-- an Arc to the object stands at a key that is still counted, and not among these
pub record IsNamedBeside (from : State) (counted : List Key) (sets : KeySet) (o : ℕ) : Type 0 where
  pub place : Key
  pub uncounted : Contains counted place → ⊥
  pub beside : is_among sets place ≡ false
  pub holds : 0 < weight_of_key (names_alike (Strong o)) from place

-- operations have to be passed that touch none of the objects, or beside which each of these has such an Arc
abbrev pub MustPass : (keys sets : KeySet) → State → Holders → Type 0
MustPass keys sets from h = (meet h.objects keys ≡ false) ⊎ AllByRecursion (IsNamedBeside from h.counted.items sets) (objects_of h.items.items)

-- For private functions alone: what stands at one key more is no longer counted
pub record IsOneCounted (x : Key) (from : State) (old new : Holders) : Type 0 where
  pub counted : (t : Key → Bool) → IsCountedIn t from old → (u : Key → Bool) → ((y : Key) → u y ≡ true → (t y ≡ true) ⊎ (y ≡ x)) → IsCountedIn u from new
  pub no_more : (y : Key) → Contains new.counted.items y → Contains old.counted.items y ⊎ (y ≡ x)
  pub objects : new.objects ≡ old.objects
  pub items : objects_of new.items.items ≡ objects_of old.items.items

-- For private functions alone: these are the slots that stand at a key
abbrev pub AreSlotsAt : Key → State → List Slot → Type 0
AreSlotsAt x from slots = (o : ℕ) → weight_of_key (names_alike (Strong o)) from x ≡ slots_weight (names_alike (Strong o)) slots

-- For private functions alone: whether slots name the object strongly
abbrev pub are_named_by : List Slot → Holder → Bool
are_named_by slots it = nat_lt 0 (slots_weight (names_alike (Strong it.object)) slots)

-- For private functions alone: as many slots fewer as these name the object
abbrev pub less_by : List Slot → Holder → Holder
less_by slots it = record { object = it.object; left = it.left - slots_weight (names_alike (Strong it.object)) slots }
