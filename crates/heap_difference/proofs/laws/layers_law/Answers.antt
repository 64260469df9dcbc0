use Rattle.heap_difference.proofs.LayerLemmas.{layers_hold}
use Rattle.heap_difference.proofs.laws.layers_law.Goals as goal

pub returns : goal.returns
returns c = layers_hold
