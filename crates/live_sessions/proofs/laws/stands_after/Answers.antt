use Rattle.std.proofs.Common.{ap}
use Rattle.edit_desk.specs.Answers.{Standing}
use Rattle.live_sessions.proofs.Legal.{is_front, stands_there}
use Rattle.live_sessions.proofs.laws.stands_after.Goals as goal

pub returns-clause-trace : goal.returns-clause-trace
returns-clause-trace c = ap (λ (s : Standing). s.trace) (stands_there c.args.desk.now.standing c.opening-opening.ensures.legal)

pub returns-clause-legal : goal.returns-clause-legal
returns-clause-legal c = is_front c.args.desk.now.standing c.opening-opening.ensures.legal
