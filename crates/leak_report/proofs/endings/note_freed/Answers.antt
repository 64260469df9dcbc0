use Rattle.std.proofs.Common.{sym}
use Rattle.leak_report.specs.Told.{gives_up}
use Rattle.leak_report.proofs.ToldLemmas.{others_stay, gives_up_stays, one_gives_up}
use Rattle.leak_report.proofs.endings.note_freed.Goals as goal

pub returns-in_default : goal.returns-in_default
returns-in_default c = sym (others_stay (gives_up c.args.object c.args.id) c.args.object (gives_up_stays c.args.object c.args.id) c.args.lives.now c.in_default.ensures)

pub returns : goal.returns
returns c = one_gives_up c.args.object c.args.id c.args.lives.now c.in-Some.place _ c.or.result c.requires c.in-Some.ensures.0 c.in-Some.ensures.1 c.or.ensures
