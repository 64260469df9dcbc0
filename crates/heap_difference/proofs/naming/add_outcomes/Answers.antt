use Rattle.std.proofs.Common.{arith}
use Rattle.heap_difference.specs.Naming.{outcome_keys}
use Rattle.heap_difference.proofs.NamingLemmas.{parts_next}
use Rattle.heap_difference.proofs.naming.add_outcomes.Goals as goal

pub loop-outcome-preserved : goal.loop-outcome-preserved
loop-outcome-preserved c =
    parts_next outcome_keys c.args.outcomes.now c.loop-outcome.outcome-index c.outcome-item.result (omega arith) c.outcome-item.is c.args.keys.now.items c.loop-outcome.keys.items c.add_outcome.new.keys.items c.loop-outcome.invariant c.in_ok-add_outcome.ensures
