use Rattle.std.proofs.Common.{sym, subst}
use Rattle.live_sessions.specs.declared.submitter.End.{End}
use Rattle.live_sessions.specs.Races.{Stepped}
use Rattle.live_sessions.proofs.Races.{stepped}
use Rattle.live_sessions.proofs.submitter.ask.Goals as goal

pub returns-in-Ok : goal.returns-in-Ok
returns-in-Ok g c =
    subst (λ (e : End). Stepped c.args.pass.now c.args.request c.submit.new.pass e) (sym c.end_of.ensures)
    (stepped g.J.Naming.opening c.args.pass.now c.submit.new.pass c.args.request c.in-Ok.reply c.in-Ok.ensures.reply)
