-- Slots that are counted besides others, or no more (for private functions alone). `w` is what a slot weighs; `g w` is what
-- all the slots in question weigh.
use Rattle.std.specs.Prelude.{ℕ, ◌+◌, ◌^◌, ◌<◌, ◌≤◌, ◌≡◌, ◌==◌, [], ◌∷◌, if◌then◌else◌}
use Rattle.std.specs.Ordering.{nat_cmp}
use Rattle.std.specs.FinMap.{FinMap, get}
use Rattle.trace_types.specs.declared.slots.Slot.{Slot}
use Rattle.trace_types.specs.declared.slots.Slot.TheVariants.{Strong, Weak}
use Rattle.trace_types.specs.declared.slots.Item.{Item}
use Rattle.trace_types.specs.declared.slots.Change.{Change}
use Rattle.ownership_model.specs.State.{names_alike, items_weight, ends}
use Rattle.ownership_model.specs.Changes.{changed_by}
use Rattle.object_heap.specs.declared.counters.Counters.{Counters}
use Rattle.object_heap.specs.declared.draft.Draft.{Draft}
use Rattle.object_heap.specs.Counted.{drafted, IsCounted}
use Rattle.object_heap.specs.TableView.{counters_at}

-- one object has other counters, and the others have theirs
abbrev pub IsSetAt : FinMap nat_cmp Counters → FinMap nat_cmp Counters → ℕ → Counters → Type 0
IsSetAt old new o c = (p : ℕ) → counters_at (get new p) ≡ (if o == p then c else counters_at (get old p))

-- the counters of an object after its last strong slot: its end is counted besides
abbrev pub ended : Counters → Counters
ended c = record { strong = 0; weak = c.weak; ends = c.ends + 1 }

-- these slots are counted besides
pub record CountsMore (less more : FinMap nat_cmp Counters) (g : (Slot → ℕ) → ℕ) : Type 0 where
  pub strong_is : (o : ℕ) → (counters_at (get more o)).strong ≡ g (names_alike (Strong o)) + (counters_at (get less o)).strong
  pub weak_is : (o : ℕ) → (counters_at (get more o)).weak ≡ g (names_alike (Weak o)) + (counters_at (get less o)).weak
  pub ends_is : (o : ℕ) → (counters_at (get more o)).ends ≡ (counters_at (get less o)).ends

-- this item is counted besides
pub record CountsItem (less more : FinMap nat_cmp Counters) (x : Item) : Type 0 where
  pub strong_is : (o : ℕ) → (counters_at (get more o)).strong ≡ items_weight (names_alike (Strong o)) (x ∷ []) + (counters_at (get less o)).strong
  pub weak_is : (o : ℕ) → (counters_at (get more o)).weak ≡ items_weight (names_alike (Weak o)) (x ∷ []) + (counters_at (get less o)).weak
  pub ends_is : (o : ℕ) → (counters_at (get more o)).ends ≡ ends o (x ∷ []) + (counters_at (get less o)).ends

-- these slots are among those that are counted
pub record HasSlots (counts : FinMap nat_cmp Counters) (g : (Slot → ℕ) → ℕ) : Type 0 where
  pub strong_in : (o : ℕ) → g (names_alike (Strong o)) ≤ (counters_at (get counts o)).strong
  pub weak_in : (o : ℕ) → g (names_alike (Weak o)) ≤ (counters_at (get counts o)).weak

-- so many slots and ends more can be counted in 64 bits
pub record HasRoom (counts : FinMap nat_cmp Counters) (n : ℕ) : Type 0 where
  pub strong_fits : (o : ℕ) → (counters_at (get counts o)).strong + n < 2 ^ 64
  pub weak_fits : (o : ℕ) → (counters_at (get counts o)).weak + n < 2 ^ 64
  pub ends_fit : (o : ℕ) → (counters_at (get counts o)).ends + n < 2 ^ 64

-- one change was made
pub record Changes (old new : Draft) (c : Change) : Type 0 where
  pub state : drafted new ≡ changed_by (drafted old) c
  pub counted : IsCounted new.objects.counts (drafted new) []
