use Rattle.std.proofs.Common.{length, ◌-◌}
use Rattle.run_engine.proofs.LoadLemmas.{IsLoaded}
use Rattle.run_engine.proofs.replay.loading.loaded.Given as goal

abbrev pub invariant-loop-prefix : goal.invariant-loop-prefix
invariant-loop-prefix l = IsLoaded l.ops l.flags l.initial.meter l.prefix.len l.prefix.segments l.prefix.end l.meter

abbrev pub decreases-loop-prefix : goal.decreases-loop-prefix
decreases-loop-prefix l = length l.ops - l.prefix.len
