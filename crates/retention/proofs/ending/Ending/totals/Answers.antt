use Rattle.retention.proofs.TotalsTold.{totals_told}
use Rattle.retention.proofs.ending.Ending.totals.Goals as goal

pub returns : goal.returns
returns c = λ ops of. totals_told ops c.args.self.now of c.requires c.counted.result c.counted.ensures.leaks c.counted.ensures.cycles c.counted.ensures.husks
