use Rattle.std.proofs.Common.{◌≡◌, [], take}
use Rattle.trace_types.specs.Stretches.{outcomes_of}
use Rattle.leak_report.specs.Lives.{made_after}
use Rattle.leak_report.proofs.made.made_by.Given as goal

abbrev pub invariant-loop-stretch : goal.invariant-loop-stretch
invariant-loop-stretch l = l.made ≡ made_after [] (outcomes_of (take l.stretch-index l.stretches))
