-- One item of a heap was dropped (for private functions alone).
use Rattle.std.specs.Prelude.{List}
use Rattle.trace_types.specs.declared.slots.Item.{Item}
use Rattle.trace_types.specs.declared.outcomes.Event.{Event}
use Rattle.ownership_model.specs.Release.{Becomes, drop_first}
use Rattle.object_heap.specs.declared.draft.Draft.{Draft}
use Rattle.object_heap.specs.Counted.{drafted, IsCounted}

-- the first item was dropped, and what is left is counted
pub record DropsFirst (old new : Draft) (x : Item) (rest left : List Item) (before told : List Event) : Type 0 where
  pub step : Becomes (drafted new) left before told (drop_first (drafted old) x rest)
  pub counted : IsCounted new.objects.counts (drafted new) left
