use Rattle.std.proofs.Common.{◌≡◌, map, take}
use Rattle.leak_report.specs.Told.{told_by_all}
use Rattle.leak_report.proofs.endings.note_all.Given as goal

abbrev pub invariant-loop-event : goal.invariant-loop-event
invariant-loop-event l = l.lives ≡ map (told_by_all (take l.event-index l.events)) l.initial.lives
