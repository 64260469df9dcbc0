use Rattle.std.proofs.Common.{◌≡◌, length, take}
use Rattle.trace_types.specs.Stretches.{ops_of}
use Rattle.leak_report.proofs.shown.operations.Given as goal

abbrev pub invariant-loop-stretch : goal.invariant-loop-stretch
invariant-loop-stretch l = l.operations ≡ length (ops_of (take l.stretch-index l.stretches))
