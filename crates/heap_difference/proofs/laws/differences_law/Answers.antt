use Rattle.heap_difference.proofs.LawLemmas.{differences_hold}
use Rattle.heap_difference.proofs.laws.differences_law.Goals as goal

pub returns : goal.returns
returns c = differences_hold
