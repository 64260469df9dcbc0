use Rattle.std.proofs.Common.{drop}
use Rattle.agreement.proofs.TrimmingLemmas.{IsTrimming}
use Rattle.agreement.proofs.exchange.Exchange.trimmed.Given as goal

abbrev pub invariant-loop-object : goal.invariant-loop-object
invariant-loop-object l = IsTrimming l.self l.rest (drop l.object-index l.object-items)
