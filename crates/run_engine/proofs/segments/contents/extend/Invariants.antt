use Rattle.std.proofs.Common.{◌≡◌, ◌++◌, take}
use Rattle.run_engine.proofs.segments.contents.extend.Given as goal

abbrev pub invariant-loop-outcome : goal.invariant-loop-outcome
invariant-loop-outcome l = l.all ≡ l.initial.all ++ take l.outcome-index l.more
