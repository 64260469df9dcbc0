use Rattle.std.proofs.Common.{◌≡◌, take}
use Rattle.leak_report.specs.Lives.{made_after}
use Rattle.leak_report.proofs.made.note_outcomes.Given as goal

abbrev pub invariant-loop-outcome : goal.invariant-loop-outcome
invariant-loop-outcome l = l.made ≡ made_after l.initial.made (take l.outcome-index l.outcomes)
