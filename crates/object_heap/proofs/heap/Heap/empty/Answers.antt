use Rattle.object_heap.proofs.NothingLemmas.{kept_nothing}
use Rattle.object_heap.proofs.heap.Heap.empty.Goals as goal

pub invariant_of-result : goal.invariant_of-result
invariant_of-result c = kept_nothing c.empty.result c.empty.ensures.state c.empty.ensures.counts
