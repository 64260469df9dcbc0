use Rattle.agreement.proofs.TrimmingLemmas.{told_by_both, told_by_one}
use Rattle.agreement.proofs.exchange.Exchange.is_nothing.Goals as goal

pub returns-then-len-eq0 : goal.returns-then-len-eq0
returns-then-len-eq0 c = told_by_both (record { removed = c.self.inside.removed; added = c.self.inside.added }) c.args.self.now c.len.result c.len-then-len-eq0.result c.self.view_is c.len.ensures c.len-then-len-eq0.ensures c.if-len-eq0.true

pub returns-else-len-eq0 : goal.returns-else-len-eq0
returns-else-len-eq0 c = told_by_one (record { removed = c.self.inside.removed; added = c.self.inside.added }) c.args.self.now c.len.result c.self.view_is c.len.ensures c.if-len-eq0.false
