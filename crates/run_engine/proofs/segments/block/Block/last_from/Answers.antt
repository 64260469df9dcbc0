use Rattle.run_engine.proofs.MeasureLemmas.{same-last}
use Rattle.run_engine.proofs.segments.block.Block.last_from.Goals as goal

pub returns : goal.returns
returns c = same-last c.stored.result.now c.args.self.now c.args.position c.last_in.result.0 c.last_in.result.1 c.stored.ensures c.last_in.ensures
