use Rattle.std.proofs.Common.{sym}
use Rattle.retention_report.proofs.RisingLemmas.{there_has}
use Rattle.retention_report.proofs.lives.is_made.Goals as goal

pub returns-in-Some : goal.returns-in-Some
returns-in-Some c = sym (there_has c.args.lives.now c.in-Some.field-0 c.args.object c.in-Some.ensures.0 c.in-Some.ensures.1)

pub returns-in-None : goal.returns-in-None
returns-in-None c = sym c.in-None.ensures
