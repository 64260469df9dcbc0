use Rattle.std.proofs.Common.{◌≡◌, [], drop}
use Rattle.ownership_model.specs.Bounds.{IsBounded}
use Rattle.object_heap.specs.Counted.{IsCounted, drafted}
use Rattle.object_heap.specs.Exchange.{with_keys}
use Rattle.object_heap.proofs.draft.Draft.put_in_all.Given as goal

abbrev pub invariant-loop-key : goal.invariant-loop-key
invariant-loop-key l = record {
  counted : IsCounted l.self.objects.counts (drafted l.self) [];
  bounded : IsBounded (drafted l.self);
  rest : with_keys l.added (drop l.key-index l.key-items) (drafted l.self) ≡ with_keys l.added l.key-items (drafted l.fn.self);
}
