use Rattle.std.proofs.Common.{◌≡◌, [], drop}
use Rattle.ownership_model.specs.Bounds.{IsBounded}
use Rattle.object_heap.specs.Counted.{IsCounted, drafted}
use Rattle.object_heap.specs.Laid.{with_entries}
use Rattle.object_heap.proofs.draft.Draft.copy_objects.Given as goal

abbrev pub invariant-loop-object : goal.invariant-loop-object
invariant-loop-object l = record {
  counted : IsCounted l.self.objects.counts (drafted l.self) [];
  bounded : IsBounded (drafted l.self);
  rest : with_entries (drafted l.from) (drop l.object-index l.objects) (drafted l.self) ≡ with_entries (drafted l.from) l.objects (drafted l.fn.self);
}
