use Rattle.std.proofs.Common.{rules}
use Rattle.leak_report.proofs.RisingLemmas.{rising-append}
use Rattle.leak_report.proofs.rising.are_below.Goals as goal

pub returns-in-Some : goal.returns-in-Some
returns-in-Some c less = rising-append c.args.numbers.now c.args.number c.requires (λ some. search rules)

pub returns-in-None : goal.returns-in-None
returns-in-None c less = rising-append c.args.numbers.now c.args.number c.requires (λ some. search rules)
