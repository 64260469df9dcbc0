use Rattle.std.proofs.Common.{sym}
use Rattle.leak_report.specs.Told.{ends}
use Rattle.leak_report.proofs.ToldLemmas.{others_stay, ends_stays, one_ends}
use Rattle.leak_report.proofs.endings.note_ending.Goals as goal

pub returns-in_default : goal.returns-in_default
returns-in_default c = sym (others_stay (ends c.args.object c.args.ending) c.args.object (ends_stays c.args.object c.args.ending) c.args.lives.now c.in_default.ensures)

pub returns : goal.returns
returns c = one_ends c.args.object c.args.ending c.args.lives.now c.in-Some.place _ c.or.result c.requires c.in-Some.ensures.0 c.in-Some.ensures.1 c.or.ensures
