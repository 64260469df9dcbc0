use Rattle.std.proofs.Common.{◌≡◌, ◌++◌, take}
use Rattle.leak_report.specs.Lives.{numbered}
use Rattle.retention.proofs.moves.push_events.Given as goal

abbrev pub invariant-loop-event : goal.invariant-loop-event
invariant-loop-event l = l.all.items ≡ l.initial.all.items ++ numbered l.id (take l.event-index l.events)
