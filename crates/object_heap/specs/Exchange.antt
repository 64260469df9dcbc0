-- Objects that go from a state and others that come. Only the first definition is for callers.
use Rattle.std.specs.Prelude.{ℕ, ◌≡◌, List, [], ◌∷◌, Option, Some, None}
use Rattle.std.specs.Ordering.{nat_cmp}
use Rattle.std.specs.FinMap.{FinMap, get, insert, remove}
use Rattle.trace_types.specs.declared.slots.Entry.{Entry}
use Rattle.ownership_model.specs.declared.remaining.Remaining.{Remaining}
use Rattle.ownership_model.specs.State.{State}
use Rattle.ownership_model.specs.Bounds.{IsBounded, ObjectFits}
use Rattle.ownership_model.specs.Patch.{entry_of}
use Rattle.object_heap.specs.declared.draft.Draft.{Draft}
use Rattle.object_heap.specs.Counted.{drafted, IsCounted}

-- each of these objects is within the limits of a state
abbrev pub AreWithinLimits : FinMap nat_cmp Remaining → Type 0
AreWithinLimits xs = (q : ℕ) → ObjectFits q (entry_of (get xs q))

-- an object goes: nothing stands at the number q any more
abbrev pub without_object : State → ℕ → State
without_object m q = record m { objects = remove m.objects q }

-- an object comes: this stands at the number q, whatever stood there
abbrev pub with_object : State → ℕ → Entry → State
with_object m q e = record m { objects = insert m.objects q e }

-- these objects go, one after another
abbrev pub without_keys : List ℕ → State → State
without_keys [] m = m
without_keys (q ∷ qs) m = without_keys qs (without_object m q)

-- what remains comes, if there is anything
abbrev pub with_one : State → ℕ → Option Remaining → State
with_one m q None = m
with_one m q (Some x) = with_object m q x.entry

-- what remains at these numbers comes, one after another
abbrev pub with_keys : FinMap nat_cmp Remaining → List ℕ → State → State
with_keys xs [] m = m
with_keys xs (q ∷ qs) m = with_keys xs qs (with_one m q (get xs q))

-- an object went
pub record TakesOut (old new : Draft) (q : ℕ) : Type 0 where
  pub state : drafted new ≡ without_object (drafted old) q
  pub counted : IsCounted new.objects.counts (drafted new) []
  pub bounded : IsBounded (drafted new)

-- an object came, whatever was there
pub record PutsIn (old new : Draft) (q : ℕ) (e : Entry) : Type 0 where
  pub state : drafted new ≡ with_object (drafted old) q e
  pub counted : IsCounted new.objects.counts (drafted new) []
  pub bounded : IsBounded (drafted new)
