use Rattle.std.proofs.Common.{◌<◌, subst}
use Rattle.std.specs.List.{All}
use Rattle.edit_desk.specs.declared.entries.Entry.{Entry}
use Rattle.live_sessions.specs.Desks.{CountedView}
use Rattle.live_sessions.specs.Fronts.{IsFront}
use Rattle.live_sessions.proofs.Legal.{is_front}
use Rattle.live_sessions.specs.declared.limits.TheConstants.{PLACES}
use Rattle.live_sessions.proofs.counted.CountedDesk.len.Goals as goal

pub returns-clause-legal : goal.returns-clause-legal
returns-clause-legal c = subst (λ (v : CountedView). IsFront v.opening v.history) c.self.view_is (is_front c.self.inside.desk.standing c.opening-opening.ensures.legal)

pub returns-clause-sessions : goal.returns-clause-sessions
returns-clause-sessions c = subst (λ (v : CountedView). All (λ (e : Entry). e.session < PLACES) v.history) c.self.view_is c.self.invariant.sessions
