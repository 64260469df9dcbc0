use Rattle.std.proofs.Common.{◌≡◌, ◌-◌, [], length}
use Rattle.std.specs.FinMap.{get}
use Rattle.trace_types.specs.declared.slots.Entry.TheVariants.{Alive}
use Rattle.ownership_model.specs.Bounds.{IsBounded}
use Rattle.object_heap.specs.Counted.{IsCounted, drafted}
use Rattle.object_heap.specs.Exchange.{with_object}
use Rattle.object_heap.specs.Laid.{BeginAlike}
use Rattle.object_heap.proofs.draft.Draft.set_fields.Given as goal

abbrev pub invariant-loop-at : goal.invariant-loop-at
invariant-loop-at l = record {
  counted : IsCounted l.self.objects.counts (drafted l.self) [];
  bounded : IsBounded (drafted l.self);
  alike : BeginAlike (get l.self.objects.entries l.object) l.slots l.at;
  rest : with_object (drafted l.self) l.object (Alive l.slots) ≡ with_object (drafted l.fn.self) l.object (Alive l.slots);
}

abbrev pub decreases-loop-at : goal.decreases-loop-at
decreases-loop-at l = length l.slots - l.at
