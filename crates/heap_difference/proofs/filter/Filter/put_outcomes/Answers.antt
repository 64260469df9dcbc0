use Rattle.heap_difference.specs.Naming.{outcome_keys}
use Rattle.heap_difference.proofs.FilterLemmas.{put_part}
use Rattle.heap_difference.proofs.filter.Filter.put_outcomes.Goals as goal

pub loop-outcome-preserved : goal.loop-outcome-preserved
loop-outcome-preserved c = put_part outcome_keys c.args.self.now c.loop-outcome.self c.put_outcome.new.self c.args.outcomes.now c.loop-outcome.outcome-index c.outcome-item.result c.loop-outcome-test.true c.outcome-item.is c.loop-outcome.invariant c.put_outcome.ensures
