-- Objects that are counted nowhere (for private functions alone).
use Rattle.std.specs.Prelude.{ℕ, ◌≡◌}
use Rattle.std.specs.Ordering.{nat_cmp}
use Rattle.std.specs.FinMap.{FinMap, get}
use Rattle.trace_types.specs.declared.slots.Entry.{Entry}
use Rattle.object_heap.specs.declared.counters.Counters.{Counters}
use Rattle.object_heap.specs.TableView.{counters_at}
use Rattle.object_heap.specs.Descent.{IsUnnamed}

-- what is counted nowhere is named by no field
abbrev pub AreNamesCounted : FinMap nat_cmp Counters → FinMap nat_cmp Entry → Type 0
AreNamesCounted counts objects = (o : ℕ) → (counters_at (get counts o)).strong ≡ 0 → (counters_at (get counts o)).weak ≡ 0 → IsUnnamed objects o
