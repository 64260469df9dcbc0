-- The law of states that are alike but for some objects (profile of this project).
use Rattle.std.specs.Prelude.{ℕ, ◌≡◌, ◌||◌, List, [], ◌++◌, map, Bool, true, false, not, IsTrue, slice_get}
use Rattle.std.specs.FinMap.{get}
use Rattle.trace_types.specs.Operation.{Operation}
use Rattle.trace_types.specs.Trace.{has_distinct_numbers}
use Rattle.ownership_model.specs.declared.key.Key.{Key}
use Rattle.ownership_model.specs.declared.key.Key.TheVariants.{Object}
use Rattle.trace_types.specs.declared.slots.Slot.{Slot}
use Rattle.trace_types.specs.declared.slots.Slot.TheVariants.{Strong}
use Rattle.ownership_model.specs.State.{State, IsSound, names_alike}
use Rattle.ownership_model.specs.Step.{outcomes_from, end_from, AreUnused}
use Rattle.ownership_model.specs.Table.{fields_of}
use Rattle.ownership_model.specs.Alike.{AreWithin, WeightsMoveAlike, ScopesMoveAlike}
use Rattle.ownership_model.specs.Footprint.{footprints_from, moved_from}
use Rattle.ownership_model.specs.Sets.{sets_from}
use Rattle.ownership_model.specs.Near.{is_object_of, AreNear, AreKeptAlive, AreBlind, AreBlindFrom, recounted, weight_of_key}

-- what operations in turn do in both states: their outcomes differ in the counts of those objects alone, the states stay so alike, counts and
-- scopes move alike, the same is touched and moved, the loose fields of the second state hold what they held, and where nothing is set as much
-- stands in it as stood
pub record ReplaysNear (k touched set : Key → Bool) (a : ℕ → Bool) (loose : ℕ → ℕ → Bool) (m n : State) (ops : List Operation) : Type 0 where
  pub outcomes : outcomes_from n ops ≡ map (recounted m n) (outcomes_from m ops)
  pub near : AreNear k a loose (end_from m ops) (end_from n ops)
  pub weights : WeightsMoveAlike m (end_from m ops) n (end_from n ops)
  pub scopes : ScopesMoveAlike touched m.scopes (end_from m ops).scopes n.scopes (end_from n ops).scopes
  pub footprints : footprints_from m ops ≡ footprints_from n ops
  pub moved : moved_from m ops ≡ moved_from n ops
  pub fields : (o i : ℕ) → a o ≡ true → loose o i ≡ true → slice_get (fields_of (get (end_from n ops).objects o)) i ≡ slice_get (fields_of (get n.objects o)) i
  pub still : (w : Slot → ℕ) (x : Key) → set x ≡ false → weight_of_key w (end_from n ops) x ≡ weight_of_key w n x

-- So it is where the operations touch only what is alike and these objects, and each of them touches none of these objects, or reads neither a
-- count nor a loose field of one, and destroys or moves none, from m; and where each of these that is touched has an Arc left in n that stands
-- where they set nothing
abbrev pub NearHolds : Type 0
NearHolds = (k touched set : Key → Bool) (a : ℕ → Bool) (loose : ℕ → ℕ → Bool) (m n : State) (ops : List Operation)
    → ((o : ℕ) → a o ≡ true → k (Object o) ≡ false) → ((x : Key) → touched x ≡ true → (k x || is_object_of a x) ≡ true)
    → AreNear k a loose m n → AreWithin touched (footprints_from m ops) → AreWithin set (sets_from m ops) → AreBlindFrom a loose m ops → AreKeptAlive touched set a m n
    → IsSound m [] → IsSound n [] → IsTrue (has_distinct_numbers ops) → AreUnused m ops → AreUnused n ops → ReplaysNear k touched set a loose m n ops

-- What neither is touched nor moved keeps its places: from a sound state no place gains or loses an Arc to an object that operations neither
-- touch, move nor copy
abbrev pub PlacesKeepArcs : Type 0
PlacesKeepArcs = (k : Key → Bool) (m : State) (ops : List Operation) → IsSound m [] → IsTrue (has_distinct_numbers ops) → AreUnused m ops
    → AreWithin k (footprints_from m ops ++ moved_from m ops) → (o : ℕ) → k (Object o) ≡ false → (x : Key)
    → weight_of_key (names_alike (Strong o)) (end_from m ops) x ≡ weight_of_key (names_alike (Strong o)) m x

-- operations that are blind as their outcomes tell are so from the state
abbrev pub BlindOnesAre : Type 0
BlindOnesAre = (a : ℕ → Bool) (loose : ℕ → ℕ → Bool) (m : State) (ops : List Operation) → AreBlind a loose ops (outcomes_from m ops) → AreBlindFrom a loose m ops

-- and operations that touch none of these objects
abbrev pub ApartOnesAre : Type 0
ApartOnesAre = (a : ℕ → Bool) (loose : ℕ → ℕ → Bool) (m : State) (ops : List Operation) → AreWithin (λ x. not (is_object_of a x)) (footprints_from m ops) → AreBlindFrom a loose m ops

-- blind ones behind blind ones are blind together
abbrev pub BlindAppends : Type 0
BlindAppends = (a : ℕ → Bool) (loose : ℕ → ℕ → Bool) (m : State) (ops more : List Operation) → AreBlindFrom a loose m ops → AreBlindFrom a loose (end_from m ops) more
    → AreBlindFrom a loose m (ops ++ more)

-- operations that are blind to objects are blind to fewer
abbrev pub FewerAreBlind : Type 0
FewerAreBlind = (a b : ℕ → Bool) (loose : ℕ → ℕ → Bool) (m : State) (ops : List Operation) → ((o : ℕ) → b o ≡ true → a o ≡ true) → AreBlindFrom a loose m ops → AreBlindFrom b loose m ops

-- when operations are blind
pub record BlindHolds : Type 0 where
  pub listed : BlindOnesAre
  pub apart : ApartOnesAre
  pub appends : BlindAppends
  pub fewer : FewerAreBlind
