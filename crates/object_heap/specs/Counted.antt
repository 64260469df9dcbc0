-- What a heap keeps beside its state: how often each object is named.
use Rattle.std.specs.Prelude.{ℕ, ◌≡◌, List, []}
use Rattle.std.specs.Ordering.{nat_cmp}
use Rattle.std.specs.FinMap.{FinMap, get}
use Rattle.trace_types.specs.declared.slots.Item.{Item}
use Rattle.ownership_model.specs.State.{State, strong, weak, ends, IsSound}
use Rattle.ownership_model.specs.Bounds.{IsBounded}
use Rattle.object_heap.specs.declared.counters.Counters.{Counters}
use Rattle.object_heap.specs.declared.draft.Draft.{Draft}
use Rattle.object_heap.specs.TableView.{counters_at}

-- the state that a draft holds: all of it but the counters
abbrev pub drafted : Draft → State
drafted d = record { handles = d.handles.holdings; cells = d.cells; objects = d.objects.entries; scopes = d.handles.scopes }

-- the counters count the slots that stand and what is pending
pub record IsCounted (counts : FinMap nat_cmp Counters) (m : State) (pending : List Item) : Type 0 where
  pub strong_is : (o : ℕ) → (counters_at (get counts o)).strong ≡ strong m pending o
  pub weak_is : (o : ℕ) → (counters_at (get counts o)).weak ≡ weak m pending o
  pub ends_is : (o : ℕ) → (counters_at (get counts o)).ends ≡ ends o pending

-- what is true of each heap
pub record IsKept (d : Draft) : Type 0 where
  pub sound : IsSound (drafted d) []
  pub bounded : IsBounded (drafted d)
  pub counted : IsCounted d.objects.counts (drafted d) []
