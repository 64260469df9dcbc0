use Rattle.std.proofs.Common.{take}
use Rattle.std.specs.Prelude.{flat_map}
use Rattle.heap_difference.specs.Naming.{outcome_keys}
use Rattle.heap_difference.specs.Filters.{HasPutIn}
use Rattle.heap_difference.proofs.filter.Filter.put_outcomes.Given as goal

abbrev pub invariant-loop-outcome : goal.invariant-loop-outcome
invariant-loop-outcome l = HasPutIn l.fn.self l.self (flat_map outcome_keys (take l.outcome-index l.outcomes))
