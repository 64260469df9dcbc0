use Rattle.object_heap.proofs.HandleLemmas.{nothing_linked, nothing_seen}
use Rattle.object_heap.proofs.handles.Handles.empty.Goals as goal

pub invariant_of-result : goal.invariant_of-result
invariant_of-result c = nothing_linked c.empty.result c.empty-2.result c.empty.ensures c.empty-2.ensures

pub returns : goal.returns
returns c = nothing_seen c.empty.result c.empty-2.result c.empty.ensures c.empty-2.ensures
