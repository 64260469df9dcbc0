use Rattle.agreement.proofs.GatheringLemmas.{on_ok}
use Rattle.agreement.proofs.JoiningLemmas.{compares_same, compares_one}
use Rattle.agreement.proofs.joining.join_differing.Goals as goal

pub returns-then-agree_at : goal.returns-then-agree_at
returns-then-agree_at c = compares_same c.args.new.now c.args.old.now c.args.object c.args.listed.now (c.agree_at.ensures.0 c.if-agree_at.true)

pub returns : goal.returns
returns c = on_ok c.join-2.result c.join-2.ensures (compares_one c.args.new.now c.args.old.now c.args.object c.args.listed.now c.join-2.new.self)
