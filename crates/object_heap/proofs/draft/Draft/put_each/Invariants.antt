use Rattle.std.proofs.Common.{◌≡◌, [], drop}
use Rattle.ownership_model.specs.Bounds.{IsBounded}
use Rattle.object_heap.specs.Counted.{IsCounted, drafted}
use Rattle.object_heap.specs.Laid.{with_puts, CanPut, PutsFit}
use Rattle.object_heap.proofs.draft.Draft.put_each.Given as goal

abbrev pub invariant-loop-put : goal.invariant-loop-put
invariant-loop-put l = record {
  counted : IsCounted l.self.objects.counts (drafted l.self) [];
  bounded : IsBounded (drafted l.self);
  can : CanPut (drafted l.self) (drop l.put-index l.puts);
  fits : PutsFit (drop l.put-index l.puts);
  rest : with_puts (drop l.put-index l.puts) (drafted l.self) ≡ with_puts l.puts (drafted l.fn.self);
}
