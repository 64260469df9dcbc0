use Rattle.std.proofs.Common.{take}
use Rattle.heap_difference.specs.Filters.{HasPutIn}
use Rattle.heap_difference.proofs.filter.Filter.put_all.Given as goal

abbrev pub invariant-loop-key : goal.invariant-loop-key
invariant-loop-key l = HasPutIn l.fn.self l.self (take l.key-index l.keys)
