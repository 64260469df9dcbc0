use Rattle.std.proofs.Common.{ap}
use Rattle.object_heap.specs.TableView.{TableView}
use Rattle.object_heap.proofs.DescentLemmas.{descend_empty}
use Rattle.object_heap.proofs.objects.Objects.empty.Goals as goal

pub invariant_of-result : goal.invariant_of-result
invariant_of-result c = descend_empty c.empty-2.result c.empty.result.entries c.empty-2.ensures (ap (λ (t : TableView). t.entries) c.empty.ensures)
