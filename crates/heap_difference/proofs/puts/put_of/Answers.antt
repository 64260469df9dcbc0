use Rattle.std.proofs.Common.{sym}
use Rattle.heap_difference.proofs.PuttingLemmas.{unlabeled}
use Rattle.heap_difference.proofs.puts.put_of.Goals as goal

pub returns-in_default-label : goal.returns-in_default-label
returns-in_default-label c = λ in_set. unlabeled c.args.heap.now c.args.handle c.holding.ensures.sound (sym c.in_default-label.ensures)
