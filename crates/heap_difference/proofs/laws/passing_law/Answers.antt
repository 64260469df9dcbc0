use Rattle.heap_difference.proofs.LawLemmas.{stretches_pass}
use Rattle.heap_difference.proofs.laws.passing_law.Goals as goal

pub returns : goal.returns
returns c = stretches_pass
