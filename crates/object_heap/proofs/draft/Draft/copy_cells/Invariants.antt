use Rattle.std.proofs.Common.{◌≡◌, [], drop}
use Rattle.ownership_model.specs.Bounds.{IsBounded}
use Rattle.object_heap.specs.Counted.{IsCounted, drafted}
use Rattle.object_heap.specs.Laid.{with_cells}
use Rattle.object_heap.proofs.draft.Draft.copy_cells.Given as goal

abbrev pub invariant-loop-cell : goal.invariant-loop-cell
invariant-loop-cell l = record {
  counted : IsCounted l.self.objects.counts (drafted l.self) [];
  bounded : IsBounded (drafted l.self);
  rest : with_cells (drafted l.from) (drop l.cell-index l.cells) (drafted l.self) ≡ with_cells (drafted l.from) l.cells (drafted l.fn.self);
}
