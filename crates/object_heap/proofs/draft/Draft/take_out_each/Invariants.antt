use Rattle.std.proofs.Common.{◌≡◌, [], drop}
use Rattle.ownership_model.specs.Bounds.{IsBounded}
use Rattle.object_heap.specs.Counted.{IsCounted, drafted}
use Rattle.object_heap.specs.Exchange.{without_keys}
use Rattle.object_heap.proofs.draft.Draft.take_out_each.Given as goal

abbrev pub invariant-loop-object : goal.invariant-loop-object
invariant-loop-object l = record {
  counted : IsCounted l.self.objects.counts (drafted l.self) [];
  bounded : IsBounded (drafted l.self);
  rest : without_keys (drop l.object-index l.objects) (drafted l.self) ≡ without_keys l.objects (drafted l.fn.self);
}
