-- Where two states differ, and what of a set of keys is left out of it because it stands alike (profile of this project).
use Rattle.std.specs.Prelude.{ℕ, ◌≡◌, ◌==◌, List, [], ◌++◌, filter, flat_map, option_to_list, Bool, true, false, not, if◌then◌else◌}
use Rattle.std.specs.FinMap.{get}
use Rattle.ownership_model.specs.declared.key.Key.{Key}
use Rattle.ownership_model.specs.declared.key.Key.TheVariants.{Handle, Cell, Object, Scope}
use Rattle.ownership_model.specs.State.{State, strong, weak}
use Rattle.ownership_model.specs.Scopes.{scope_of}
use Rattle.ownership_model.specs.Reach.{has}
use Rattle.ownership_model.specs.Alike.{AreAlike}
use Rattle.object_heap.specs.Links.{first_of, label_in, under}
use Rattle.heap_difference.specs.declared.key_set.KeySet.{KeySet}
use Rattle.heap_difference.specs.KeySets.{is_among}

-- the keys that are not in the set
abbrev pub outside : KeySet → Key → Bool
outside d x = not (is_among d x)

-- The set has all at which two states differ: on all other keys they are alike
abbrev pub IsDifference : KeySet → (old new : State) → Type 0
IsDifference d old new = AreAlike (outside d) old new

-- of these keys those of handles, cells and objects
abbrev pub places_outside : KeySet → Key → Bool
places_outside d (Handle h) = not (has h d.handles)
places_outside d (Cell c) = not (has c d.cells)
places_outside d (Object o) = not (has o d.objects)
places_outside d (Scope t) = false

-- the same where nothing is said of whole scopes
abbrev pub HasDifference : KeySet → (old new : State) → Type 0
HasDifference d old new = AreAlike (places_outside d) old new

-- the cell holds the same in both
abbrev pub IsSameCell : (old new : State) → ℕ → Type 0
IsSameCell old new c = get old.cells c ≡ get new.cells c

-- the object is the same in both, with both of its counts
pub record IsSameObject (old new : State) (o : ℕ) : Type 0 where
  pub entry : get old.objects o ≡ get new.objects o
  pub strong : strong old [] o ≡ strong new [] o
  pub weak : weak old [] o ≡ weak new [] o

-- in each scope the handles that are not in the set are the same, in the same order
abbrev pub AreScopesAlike : (ℕ → Bool) → (old new : State) → Type 0
AreScopesAlike k old new = (t : ℕ) → filter (λ g. not (k g)) (scope_of t old.scopes) ≡ filter (λ g. not (k g)) (scope_of t new.scopes)

-- one handle less in the set
abbrev pub less : (ℕ → Bool) → ℕ → ℕ → Bool
less k h g = if h == g then false else k g

-- the handle holds the same in both, and stands in the same place of the same scope, among those that are not in the set
pub record StandsAlike (k : ℕ → Bool) (old new : State) (h : ℕ) : Type 0 where
  pub held : get old.handles h ≡ get new.handles h
  pub scopes : AreScopesAlike (less k h) old new

-- Of some handles those that differ: all others hold the same in both, and in scopes all that don't differ stand alike. Of those that
-- differ none stands alike with these
pub record AreHandlesFound (among : List ℕ) (old new : State) (rest : List ℕ) : Type 0 where
  pub left : (h : ℕ) → has h rest ≡ true → (has h among ≡ true) × ¬ (StandsAlike (λ g. has g rest) old new h)
  pub held : (h : ℕ) → has h among ≡ true → has h rest ≡ false → get old.handles h ≡ get new.handles h
  pub scopes : AreScopesAlike (λ g. has g rest) old new

-- the labels of a handle's scopes, in either
abbrev pub labels_of : (old new : State) → ℕ → List ℕ
labels_of old new h = option_to_list (label_in h old.scopes) ++ option_to_list (label_in h new.scopes)

-- What is found of the difference of two states, among keys that have it
pub record IsFound (among : KeySet) (old new : State) (d : KeySet) : Type 0 where
  pub difference : IsDifference d old new
  pub handles : (h : ℕ) → has h d.handles ≡ true → (has h among.handles ≡ true) × ¬ (StandsAlike (λ g. has g d.handles) old new h)
  pub cells : (c : ℕ) → has c d.cells ≡ true → (has c among.cells ≡ true) × ¬ (IsSameCell old new c)
  pub objects : (o : ℕ) → has o d.objects ≡ true → (has o among.objects ≡ true) × ¬ (IsSameObject old new o)
  pub labels : (t : ℕ) → has t d.labels ≡ has t (flat_map (labels_of old new) d.handles)

-- For private functions alone: what the handle holds, its label, and the first handle under it that is not in the set are the same in both
pub record IsAlikeAt (k : ℕ → Bool) (old new : State) (h : ℕ) : Type 0 where
  pub held : get old.handles h ≡ get new.handles h
  pub label : label_in h old.scopes ≡ label_in h new.scopes
  pub first : first_of (filter (λ g. not (k g)) (under h old.scopes)) ≡ first_of (filter (λ g. not (k g)) (under h new.scopes))
