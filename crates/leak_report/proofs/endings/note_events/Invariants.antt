use Rattle.std.proofs.Common.{◌≡◌, map, take}
use Rattle.leak_report.specs.Lives.{numbered}
use Rattle.leak_report.specs.Told.{told_by_all}
use Rattle.leak_report.proofs.endings.note_events.Given as goal

abbrev pub invariant-loop-event : goal.invariant-loop-event
invariant-loop-event l = l.lives ≡ map (told_by_all (numbered l.id (take l.event-index l.events))) l.initial.lives
