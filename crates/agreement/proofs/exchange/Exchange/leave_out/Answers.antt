use Rattle.agreement.proofs.TrimmingLemmas.{left_within}
use Rattle.agreement.proofs.exchange.Exchange.leave_out.Goals as goal

pub invariant_of-self-2 : goal.invariant_of-self-2
invariant_of-self-2 c = left_within c.remove-2.result c.self.inside.added c.remove-2.new.self c.args.object c.remove-2.ensures.ok c.remove-2.ensures.err c.self.invariant
