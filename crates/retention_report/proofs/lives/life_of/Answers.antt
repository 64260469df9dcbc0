use Rattle.retention_report.proofs.RisingLemmas.{found_is}
use Rattle.retention_report.proofs.lives.life_of.Goals as goal

pub returns : goal.returns
returns c = λ outs are. found_is outs c.args.lives.now c.in-Some.place _ c.args.object are c.in-Some.ensures.0 (c.in-Some.ensures.1 _)
