use Rattle.std.proofs.Common.{◌≡◌, [], drop}
use Rattle.ownership_model.specs.Bounds.{IsBounded}
use Rattle.object_heap.specs.Counted.{IsCounted, drafted}
use Rattle.object_heap.specs.Laid.{without_handles}
use Rattle.object_heap.proofs.draft.Draft.end_each.Given as goal

abbrev pub invariant-loop-handle : goal.invariant-loop-handle
invariant-loop-handle l = record {
  counted : IsCounted l.self.objects.counts (drafted l.self) [];
  bounded : IsBounded (drafted l.self);
  rest : without_handles (drop l.handle-index l.handles) (drafted l.self) ≡ without_handles l.handles (drafted l.fn.self);
}
