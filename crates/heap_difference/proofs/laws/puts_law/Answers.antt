use Rattle.heap_difference.proofs.PutLemmas.{puts_make}
use Rattle.heap_difference.proofs.laws.puts_law.Goals as goal

pub returns : goal.returns
returns c = puts_make
