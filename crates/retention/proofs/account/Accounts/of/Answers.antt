use Rattle.std.proofs.Common.{◌∙◌, length, ap, arith}
use Rattle.retention.proofs.AccountLemmas.{rising_distinct}
use Rattle.retention.proofs.account.Accounts.of.Goals as goal

pub walk_from-requires : goal.walk_from-requires
walk_from-requires c = omega (arith, c.requires.cycles.marks, c.args.end.now.cycles.marks.ok.0)

pub leaked_since-requires : goal.leaked_since-requires
leaked_since-requires c = record {
  marks = ap length c.deref.ensures.value ∙ c.requires.long;
  distinct = rising_distinct c.args.end.now.graph;
}

pub returns-clause-accounts : goal.returns-clause-accounts
returns-clause-accounts c = record {
  from_cycles = c.in_ok-from_cycles.ensures;
  long = c.in_ok-since.ensures.long;
  own = c.in_ok-own.ensures;
  retained = c.in_ok-retained.ensures;
}
