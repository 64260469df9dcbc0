use Rattle.std.proofs.Common.{take}
use Rattle.ownership_model.specs.State.{nothing_held}
use Rattle.ownership_model.specs.Step.{end_from}
use Rattle.run_engine.specs.inner.OldRun.{old_trace, new_trace}
use Rattle.run_engine.proofs.DifferenceLemmas.{differs-nowhere}
use Rattle.run_engine.proofs.replay.difference.Difference.none.Goals as goal

pub returns : goal.returns
returns c = λ r same. differs-nowhere c.none.result (end_from nothing_held (take c.args.fork.base (old_trace r))) (end_from nothing_held (take c.args.fork.edited (new_trace r))) same
