use Rattle.run_engine.proofs.FreshLemmas.{placed-fresh}
use Rattle.run_engine.proofs.replay.prefix.joined.Goals as goal

pub returns-clause-placed : goal.returns-clause-placed
returns-clause-placed c = λ chunks next. record {
  fresh = rw (c.in_ok-behind.ensures.behind, c.in_ok-behind.ensures.end) (placed-fresh c.args.prefix.fresh c.args.next.end c.args.next.origin next.end_is);
  kept = rw c.in_ok-behind.ensures.behind next.kept;
}
