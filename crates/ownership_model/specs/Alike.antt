-- Two states that are alike on a set of keys, and states that changed alike (profile of this project). A key is a place of a state:
-- a handle, a cell, an object, or the whole scope of a label.
use Rattle.std.specs.Prelude.{ℕ, ◌≡◌, ◌+◌, List, [], ◌++◌, filter, Bool, true, false, not}
use Rattle.std.specs.List.{AllByRecursion}
use Rattle.std.specs.FinMap.{get}
use Rattle.trace_types.specs.declared.slots.Slot.{Slot}
use Rattle.trace_types.specs.declared.slots.Scoped.{Scoped}
use Rattle.ownership_model.specs.declared.key.Key.{Key}
use Rattle.ownership_model.specs.declared.key.Key.TheVariants.{Handle, Cell, Object, Scope}
use Rattle.ownership_model.specs.Scopes.{scope_of}
use Rattle.ownership_model.specs.State.{State, standing_weight, strong, weak}

-- all of these keys are in the set
abbrev pub AreWithin : (Key → Bool) → List Key → Type 0
AreWithin k keys = AllByRecursion (λ x. k x ≡ true) keys

-- the keys that are told have all of these: each set that has the told ones has these
abbrev pub Covers : (told keys : List Key) → Type 0
Covers told keys = (k : Key → Bool) → AreWithin k told → AreWithin k keys

-- On the keys of a set both states have the same: what stands at handles and cells; what stands for objects, and both of their
-- counts; whole scopes. Of each scope the handles of the set stand in the same order, whatever others stand between them
pub record AreAlike (k : Key → Bool) (m n : State) : Type 0 where
  pub handles : (h : ℕ) → k (Handle h) ≡ true → get m.handles h ≡ get n.handles h
  pub cells : (c : ℕ) → k (Cell c) ≡ true → get m.cells c ≡ get n.cells c
  pub entries : (o : ℕ) → k (Object o) ≡ true → get m.objects o ≡ get n.objects o
  pub strongs : (o : ℕ) → k (Object o) ≡ true → strong m [] o ≡ strong n [] o
  pub weaks : (o : ℕ) → k (Object o) ≡ true → weak m [] o ≡ weak n [] o
  pub scopes : (t : ℕ) → k (Scope t) ≡ true → scope_of t m.scopes ≡ scope_of t n.scopes
  pub within_scopes : (t : ℕ) → filter (λ h. k (Handle h)) (scope_of t m.scopes) ≡ filter (λ h. k (Handle h)) (scope_of t n.scopes)

-- Outside the set the later state has what the earlier one had: at handles and cells, and for objects. Of each scope the handles
-- outside the set are those that were there, in their order
pub record IsKeptOutside (k : Key → Bool) (m later : State) : Type 0 where
  pub handles : (h : ℕ) → k (Handle h) ≡ false → get later.handles h ≡ get m.handles h
  pub cells : (c : ℕ) → k (Cell c) ≡ false → get later.cells c ≡ get m.cells c
  pub entries : (o : ℕ) → k (Object o) ≡ false → get later.objects o ≡ get m.objects o
  pub within_scopes : (t : ℕ) → filter (λ h. not (k (Handle h))) (scope_of t later.scopes) ≡ filter (λ h. not (k (Handle h))) (scope_of t m.scopes)

-- each object outside the set has both counts that it had
pub record AreCountsKeptOutside (k : Key → Bool) (m later : State) : Type 0 where
  pub strongs : (o : ℕ) → k (Object o) ≡ false → strong later [] o ≡ strong m [] o
  pub weaks : (o : ℕ) → k (Object o) ≡ false → weak later [] o ≡ weak m [] o

-- Whatever slots are counted, from m to its later state there come as many more as from n to its. So each count of each object differs
-- between the later states by as much as between m and n
abbrev pub WeightsMoveAlike : (m later_m n later_n : State) → Type 0
WeightsMoveAlike m later_m n later_n = (w : Slot → ℕ) → standing_weight w later_m + standing_weight w n ≡ standing_weight w later_n + standing_weight w m

-- Each scope of a becomes that of later_a as each of b becomes that of later_b: the same handles enter it, before all that are there, and
-- of those that are there the same leave. All that enter or leave are in the set
pub record ScopesMoveAlike (k : Key → Bool) (a later_a b later_b : List Scoped) : Type 0 where
  pub entered : ℕ → List ℕ
  pub stays : ℕ → Bool
  pub first : (t : ℕ) → scope_of t later_a ≡ entered t ++ filter stays (scope_of t a)
  pub second : (t : ℕ) → scope_of t later_b ≡ entered t ++ filter stays (scope_of t b)
  pub within : (t : ℕ) → AllByRecursion (λ h. k (Handle h) ≡ true) (entered t)
  pub outside : (h : ℕ) → k (Handle h) ≡ false → stays h ≡ true
