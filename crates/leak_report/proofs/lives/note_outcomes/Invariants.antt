use Rattle.std.proofs.Common.{◌≡◌, map, take}
use Rattle.leak_report.specs.Lives.{events_of}
use Rattle.leak_report.specs.Told.{told_by_all}
use Rattle.leak_report.proofs.lives.note_outcomes.Given as goal

abbrev pub invariant-loop-outcome : goal.invariant-loop-outcome
invariant-loop-outcome l = l.lives ≡ map (told_by_all (events_of (take l.outcome-index l.outcomes))) l.initial.lives
