-- The laws of footprints: two states that are alike on what is touched do alike, and nothing else changes (profile of this
-- project).
use Rattle.std.specs.Prelude.{ℕ, ◌≡◌, ◌+◌, List, [], ◌∷◌, ◌++◌, take, drop, filter, None, Bool, true, not, if◌then◌else◌, IsTrue, flat_map}
use Rattle.std.specs.List.{AllByRecursion}
use Rattle.std.specs.FinMap.{get}
use Rattle.trace_types.specs.Operation.{Operation}
use Rattle.trace_types.specs.Trace.{has_distinct_numbers}
use Rattle.trace_types.specs.declared.slots.Item.{Item}
use Rattle.ownership_model.specs.declared.key.Key.{Key}
use Rattle.ownership_model.specs.declared.key.Key.TheVariants.{Handle, Cell, Object, Scope}
use Rattle.ownership_model.specs.State.{State, nothing_held, IsSound}
use Rattle.ownership_model.specs.Scopes.{scope_of, AreFrom}
use Rattle.ownership_model.specs.Release.{drop_first, release}
use Rattle.ownership_model.specs.Step.{step, outcomes_from, end_from, AreUnused}
use Rattle.ownership_model.specs.Alike.{AreWithin, AreAlike, IsKeptOutside, AreCountsKeptOutside, WeightsMoveAlike, ScopesMoveAlike}
use Rattle.ownership_model.specs.Footprint.{item_keys, taken, footprint, moved, footprints_from, moved_from}

-- what the cascades of the same items do alike in two states
pub record DropsAlike (k : Key → Bool) (m n : State) (pending : List Item) : Type 0 where
  pub events : (release m pending).events ≡ (release n pending).events
  pub alike : AreAlike k (release m pending).state (release n pending).state
  pub weights : WeightsMoveAlike m (release m pending).state n (release n pending).state
  pub taken : taken m pending ≡ taken n pending

-- what one operation does alike in two states: it has one outcome, the states stay alike on the set, counts and scopes move alike, and
-- it touches and moves the same
pub record StepsAlike (k : Key → Bool) (m n : State) (op : Operation) : Type 0 where
  pub outcome : (step m op).outcome ≡ (step n op).outcome
  pub alike : AreAlike k (step m op).state (step n op).state
  pub weights : WeightsMoveAlike m (step m op).state n (step n op).state
  pub scopes : ScopesMoveAlike k m.scopes (step m op).state.scopes n.scopes (step n op).state.scopes
  pub footprint : footprint m op ≡ footprint n op
  pub moved : moved m op ≡ moved n op

-- what operations in turn do alike in two states
pub record ReplaysAlike (k : Key → Bool) (m n : State) (ops : List Operation) : Type 0 where
  pub outcomes : outcomes_from m ops ≡ outcomes_from n ops
  pub alike : AreAlike k (end_from m ops) (end_from n ops)
  pub weights : WeightsMoveAlike m (end_from m ops) n (end_from n ops)
  pub scopes : ScopesMoveAlike k m.scopes (end_from m ops).scopes n.scopes (end_from n ops).scopes
  pub footprints : footprints_from m ops ≡ footprints_from n ops
  pub moved : moved_from m ops ≡ moved_from n ops

-- What is done depends on the footprint alone: two states that are alike on a set that has it do alike. In a sound state nothing else
-- is set, and no count changes but of what is touched or moved. The items that a cascade drops are told one by one
pub record FootprintsHold : Type 0 where
  pub none_taken : (m : State) → taken m [] ≡ []
  pub first_taken : (m : State) (x : Item) (rest : List Item) → taken m (x ∷ rest) ≡ x ∷ taken (drop_first m x rest).state (drop_first m x rest).pending
  pub drops : (k : Key → Bool) (m n : State) (pending : List Item) → AreAlike k m n → AreWithin k (flat_map item_keys (taken m pending)) → DropsAlike k m n pending
  pub steps : (k : Key → Bool) (m n : State) (op : Operation) → AreAlike k m n → AreWithin k (footprint m op) → StepsAlike k m n op
  pub replays : (k : Key → Bool) (m n : State) (ops : List Operation) → AreAlike k m n → AreWithin k (footprints_from m ops) → ReplaysAlike k m n ops
  pub kept_by_step : (k : Key → Bool) (m : State) (op : Operation) → IsSound m [] → get m.objects op.id ≡ None → AreWithin k (footprint m op)
      → IsKeptOutside k m (step m op).state × (AreWithin k (moved m op) → AreCountsKeptOutside k m (step m op).state)
  pub kept_by_replay : (k : Key → Bool) (m : State) (ops : List Operation) → IsSound m [] → IsTrue (has_distinct_numbers ops) → AreUnused m ops → AreWithin k (footprints_from m ops)
      → IsKeptOutside k m (end_from m ops) × (AreWithin k (moved_from m ops) → AreCountsKeptOutside k m (end_from m ops))

-- x has at each handle and cell, and for each object, what the one state has, where the key is in the set, and else what the other has
pub record IsMixed (k : Key → Bool) (inside outside x : State) : Type 0 where
  pub handles : (h : ℕ) → get x.handles h ≡ (if k (Handle h) then get inside.handles h else get outside.handles h)
  pub cells : (c : ℕ) → get x.cells c ≡ (if k (Cell c) then get inside.cells c else get outside.cells c)
  pub objects : (o : ℕ) → get x.objects o ≡ (if k (Object o) then get inside.objects o else get outside.objects o)

-- What is known of a stretch that was replayed from the old state and is taken over behind the new one: both replays do alike; the end
-- is the old end on the set and the new state elsewhere, and in each scope those enter and leave that did in the old replay. What is
-- touched and moved is the same, so that the stretch may be taken over again from there
pub record IsTakenOver (k : Key → Bool) (old new : State) (ops : List Operation) : Type 0 where
  pub alike : ReplaysAlike k old new ops
  pub kept : IsKeptOutside k new (end_from new ops)
  pub counts : AreWithin k (moved_from old ops) → AreCountsKeptOutside k new (end_from new ops)
  pub end : (x : State) → IsMixed k (end_from old ops) new x → AreFrom 0 x.scopes
      → ((t : ℕ) → scope_of t x.scopes ≡ alike.scopes.entered t ++ filter alike.scopes.stays (scope_of t new.scopes)) → end_from new ops ≡ x

-- A stretch of an old trace, `len` operations from `at` on, may be taken over behind other operations wherever both replays have come to
-- states that are alike on what the stretch touched there, and its numbers are new. The whole new replay then goes on with the old
-- outcomes, and both replays are alike behind the stretch as well
abbrev pub StretchesAreTaken : Type 0
StretchesAreTaken = (k : Key → Bool) (old before : List Operation) (at len : ℕ)
    → IsTrue (has_distinct_numbers old) → IsTrue (has_distinct_numbers (before ++ take len (drop at old)))
    → AreAlike k (end_from nothing_held (take at old)) (end_from nothing_held before)
    → AreWithin k (footprints_from (end_from nothing_held (take at old)) (take len (drop at old)))
    → IsTakenOver k (end_from nothing_held (take at old)) (end_from nothing_held before) (take len (drop at old))
    × (outcomes_from nothing_held (before ++ take len (drop at old)) ≡ outcomes_from nothing_held before ++ outcomes_from (end_from nothing_held (take at old)) (take len (drop at old)))
    × (end_from nothing_held (before ++ take len (drop at old)) ≡ end_from (end_from nothing_held before) (take len (drop at old)))
    × AreAlike k (end_from nothing_held (take (at + len) old)) (end_from nothing_held (before ++ take len (drop at old)))

-- the keys outside of a set
abbrev pub beside : (Key → Bool) → Key → Bool
beside k x = not (k x)

-- Where each of two states that are alike on k goes on by operations of its own, they stay alike on each part j of k that neither touches
-- or moves. The scope of a label may be in j where all of its handles are, in either end
abbrev pub PartsStayAlike : Type 0
PartsStayAlike = (k j : Key → Bool) (m n : State) (ops more : List Operation) → ((x : Key) → j x ≡ true → k x ≡ true) → AreAlike k m n
    → IsSound m [] → IsTrue (has_distinct_numbers ops) → AreUnused m ops → AreWithin (beside j) (footprints_from m ops) → AreWithin (beside j) (moved_from m ops)
    → IsSound n [] → IsTrue (has_distinct_numbers more) → AreUnused n more → AreWithin (beside j) (footprints_from n more) → AreWithin (beside j) (moved_from n more)
    → ((t : ℕ) → j (Scope t) ≡ true → AllByRecursion (λ h. j (Handle h) ≡ true) (scope_of t (end_from m ops).scopes) × AllByRecursion (λ h. j (Handle h) ≡ true) (scope_of t (end_from n more).scopes))
    → AreAlike j (end_from m ops) (end_from n more)
