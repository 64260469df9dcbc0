use Rattle.object_heap.proofs.TableLemmas.{lean_empty, nothing_seen}
use Rattle.object_heap.proofs.table.Table.empty.Goals as goal

pub invariant_of-result : goal.invariant_of-result
invariant_of-result c = lean_empty c.empty.result c.empty.ensures

pub returns : goal.returns
returns c = nothing_seen c.empty.result c.empty.ensures
