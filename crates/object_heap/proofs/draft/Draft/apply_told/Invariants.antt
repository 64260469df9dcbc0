use Rattle.std.proofs.Common.{◌≡◌, ◌++◌, [], drop}
use Rattle.ownership_model.specs.Changes.{CanChange, changed}
use Rattle.ownership_model.specs.Bounds.{IsBounded, ChangesFit}
use Rattle.ownership_model.specs.Alike.{Covers}
use Rattle.ownership_model.specs.Footprint.{moved_by_changes}
use Rattle.object_heap.specs.Counted.{IsCounted, drafted}
use Rattle.object_heap.proofs.draft.Draft.apply_told.Given as goal

abbrev pub invariant-loop-change : goal.invariant-loop-change
invariant-loop-change l = record {
  counted : IsCounted l.self.objects.counts (drafted l.self) [];
  bounded : IsBounded (drafted l.self);
  can : CanChange (drafted l.self) (drop l.change-index l.changes);
  fits : ChangesFit (drop l.change-index l.changes);
  rest : changed (drafted l.self) (drop l.change-index l.changes) ≡ changed (drafted l.fn.self) l.changes;
  told : Covers (l.keys.items ++ moved_by_changes (drafted l.self) (drop l.change-index l.changes)) (l.fn.keys.items ++ moved_by_changes (drafted l.fn.self) l.changes);
}
