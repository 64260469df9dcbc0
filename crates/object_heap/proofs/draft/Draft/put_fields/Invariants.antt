use Rattle.std.proofs.Common.{◌≡◌, [], drop}
use Rattle.ownership_model.specs.Bounds.{IsBounded}
use Rattle.object_heap.specs.Counted.{IsCounted, drafted}
use Rattle.object_heap.specs.Laid.{with_fields, CanSet}
use Rattle.object_heap.proofs.draft.Draft.put_fields.Given as goal

abbrev pub invariant-loop-field : goal.invariant-loop-field
invariant-loop-field l = record {
  counted : IsCounted l.self.objects.counts (drafted l.self) [];
  bounded : IsBounded (drafted l.self);
  can : CanSet (drafted l.self) (drop l.field-index l.fields);
  rest : with_fields (drop l.field-index l.fields) (drafted l.self) ≡ with_fields l.fields (drafted l.fn.self);
}
