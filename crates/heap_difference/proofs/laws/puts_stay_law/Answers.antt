use Rattle.heap_difference.proofs.PutLemmas.{puts_stay}
use Rattle.heap_difference.proofs.laws.puts_stay_law.Goals as goal

pub returns : goal.returns
returns c = puts_stay
