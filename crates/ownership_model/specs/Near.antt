-- Two states that are alike but for some objects: these are alive in both, with other counts, and with something else in some of their
-- fields (profile of this project).
use Rattle.std.specs.Prelude.{ℕ, ◌≡◌, ◌≤◌, ◌<◌, suc, ◌+◌, ◌-◌, ◌⊎◌, List, [], ◌∷◌, Option, Some, None, Bool, true, false, not}
use Rattle.std.specs.List.{AllByRecursion}
use Rattle.std.specs.Option.{option_map_or}
use Rattle.std.specs.FinMap.{get}
use Rattle.trace_types.specs.declared.slots.Slot.{Slot}
use Rattle.trace_types.specs.declared.slots.Slot.TheVariants.{Strong}
use Rattle.trace_types.specs.declared.slots.Entry.{Entry}
use Rattle.trace_types.specs.declared.slots.Entry.TheVariants.{Alive, Husk}
use Rattle.trace_types.specs.declared.kinds.Kind.{Kind}
use Rattle.trace_types.specs.declared.kinds.Kind.TheVariants as kind
use Rattle.trace_types.specs.declared.outcomes.Answer.TheVariants as answer
use Rattle.trace_types.specs.declared.outcomes.Counts.{Counts}
use Rattle.trace_types.specs.declared.outcomes.Outcome.{Outcome}
use Rattle.trace_types.specs.declared.outcomes.Verdict.TheVariants.{Did}
use Rattle.trace_types.specs.Operation.{Operation}
use Rattle.ownership_model.specs.declared.key.Key.{Key}
use Rattle.ownership_model.specs.declared.key.Key.TheVariants.{Handle, Cell, Object, Scope}
use Rattle.ownership_model.specs.State.{State, strong, weak, names_alike, holding_weight, entry_weight}
use Rattle.ownership_model.specs.Touched.{event_object}
use Rattle.ownership_model.specs.Step.{step}
use Rattle.ownership_model.specs.Alike.{AreWithin, AreAlike}
use Rattle.ownership_model.specs.Footprint.{footprint}

-- whether a key is one of these objects
abbrev pub is_object_of : (ℕ → Bool) → Key → Bool
is_object_of a (Handle h) = false
is_object_of a (Cell c) = false
is_object_of a (Object o) = a o
is_object_of a (Scope t) = false

-- as many fields, and the same in each but for the loose ones
abbrev pub AreFieldsNear : (loose : ℕ → Bool) → List Slot → List Slot → Type 0
AreFieldsNear loose [] [] = Unit {0}
AreFieldsNear loose [] (t ∷ ts) = ⊥
AreFieldsNear loose (s ∷ ss) [] = ⊥
AreFieldsNear loose (s ∷ ss) (t ∷ ts) = (loose 0 ≡ false → s ≡ t) × AreFieldsNear (λ i. loose (suc i)) ss ts

-- alive in both, with such fields
abbrev pub AreEntriesNear : (loose : ℕ → Bool) → Option Entry → Option Entry → Type 0
AreEntriesNear loose (Some (Alive fields)) (Some (Alive others)) = AreFieldsNear loose fields others
AreEntriesNear loose (Some (Alive fields)) (Some Husk) = ⊥
AreEntriesNear loose (Some (Alive fields)) None = ⊥
AreEntriesNear loose (Some Husk) e = ⊥
AreEntriesNear loose None e = ⊥

-- The states are alike on the keys of k. Each object of a is alive in both, with as many fields, and only its loose ones may hold something
-- else
pub record AreNear (k : Key → Bool) (a : ℕ → Bool) (loose : ℕ → ℕ → Bool) (m n : State) : Type 0 where
  pub alike : AreAlike k m n
  pub near : (o : ℕ) → a o ≡ true → AreEntriesNear (loose o) (get m.objects o) (get n.objects o)

-- what slots at a key weigh
abbrev pub weight_of_key : (Slot → ℕ) → State → Key → ℕ
weight_of_key w m (Handle h) = option_map_or (holding_weight w) (get m.handles h) 0
weight_of_key w m (Cell c) = option_map_or w (get m.cells c) 0
weight_of_key w m (Object o) = option_map_or (entry_weight w) (get m.objects o) 0
weight_of_key w m (Scope t) = 0

-- an Arc to the object stands at a key outside of a set
pub record IsHeldOutside (set : Key → Bool) (m : State) (o : ℕ) : Type 0 where
  pub place : Key
  pub outside : set place ≡ false
  pub holds : 0 < weight_of_key (names_alike (Strong o)) m place

-- each object of a that is touched has as many Arcs in n as in m, or more, or one that stands where nothing is set
abbrev pub AreKeptAlive : (touched set : Key → Bool) (a : ℕ → Bool) (m n : State) → Type 0
AreKeptAlive touched set a m n = (o : ℕ) → a o ≡ true → touched (Object o) ≡ true → (strong m [] o ≤ strong n [] o) ⊎ IsHeldOutside set n o

-- whether the method decides by the counts of its object
abbrev pub asks_counts : Kind → Bool
asks_counts (kind.TryUnwrap h) = true
asks_counts (kind.IntoInner h) = true
asks_counts (kind.GetMut h) = true
asks_counts (kind.MakeMut h) = true
asks_counts k = false

-- whether it may copy the fields of its object
abbrev pub copies_fields : Kind → Bool
copies_fields (kind.MakeMut h) = true
copies_fields k = false

-- the field of its object that it reads or sets
abbrev pub field_index : Kind → Option ℕ
field_index (kind.Set h i from) = Some i
field_index (kind.Take h i to) = Some i
field_index (kind.Get h i to) = Some i
field_index k = None

-- As its outcome tells, an operation reads no count of an object of a and no loose field, and destroys or moves none of these objects
pub record IsBlind (a : ℕ → Bool) (loose : ℕ → ℕ → Bool) (op : Operation) (x : Outcome) : Type 0 where
  pub events : AllByRecursion (λ e. a (event_object e) ≡ false) x.events
  pub copied : copies_fields op.kind ≡ true → x.verdict ≡ Did answer.Cloned → ⊥
  pub counts : (c : Counts) → x.counts ≡ Some c → a c.object ≡ true → asks_counts op.kind ≡ false
  pub fields : (c : Counts) (i : ℕ) → x.counts ≡ Some c → a c.object ≡ true → field_index op.kind ≡ Some i → loose c.object i ≡ false

-- so it is of operations with their outcomes
abbrev pub AreBlind : (a : ℕ → Bool) (loose : ℕ → ℕ → Bool) → List Operation → List Outcome → Type 0
AreBlind a loose [] xs = Unit {0}
AreBlind a loose (op ∷ ops) [] = Unit {0}
AreBlind a loose (op ∷ ops) (x ∷ xs) = IsBlind a loose op x × AreBlind a loose ops xs

-- each operation, from the state that those before leave, is blind as its outcome tells, or touches none of these objects
abbrev pub AreBlindFrom : (a : ℕ → Bool) (loose : ℕ → ℕ → Bool) → State → List Operation → Type 0
AreBlindFrom a loose m [] = Unit {0}
AreBlindFrom a loose m (op ∷ ops) =
    (IsBlind a loose op (step m op).outcome ⊎ AreWithin (λ x. not (is_object_of a x)) (footprint m op)) × AreBlindFrom a loose (step m op).state ops

-- counts as they are told where the replay begins with n in place of m
abbrev pub recounted_counts : (m n : State) → Option Counts → Option Counts
recounted_counts m n None = None
recounted_counts m n (Some c) = Some (record { object = c.object; strong = c.strong + strong n [] c.object - strong m [] c.object; weak = c.weak + weak n [] c.object - weak m [] c.object })

-- an outcome with such counts
abbrev pub recounted : (m n : State) → Outcome → Outcome
recounted m n x = record x { counts = recounted_counts m n x.counts }
