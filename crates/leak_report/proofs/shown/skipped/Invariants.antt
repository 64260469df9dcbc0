use Rattle.std.proofs.Common.{◌≡◌, count_by, take}
use Rattle.trace_types.specs.Stretches.{outcomes_of}
use Rattle.leak_report.specs.Lines.{is_skipped}
use Rattle.leak_report.proofs.shown.skipped.Given as goal

abbrev pub invariant-loop-stretch : goal.invariant-loop-stretch
invariant-loop-stretch l = l.skipped ≡ count_by (λ outcome. is_skipped outcome.verdict) (outcomes_of (take l.stretch-index l.stretches))
