use Rattle.object_heap.proofs.GainLemmas.{on_ok}
use Rattle.object_heap.proofs.cascade.tell_silent.Goals as goal

pub returns : goal.returns
returns c = on_ok c.tell_item.result c.tell_item.ensures (λ told. λ k has later. told k later)
