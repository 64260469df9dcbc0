use Rattle.std.proofs.Common.{take}
use Rattle.std.specs.List.{list_any}
use Rattle.retention_model.specs.Looked.{tells}
use Rattle.retention.specs.Dates.{Looks}
use Rattle.retention.proofs.dates.Dates.follow_events.Given as goal

abbrev pub invariant-loop-event : goal.invariant-loop-event
invariant-loop-event l = Looks (λ p. list_any (tells p) (take l.event-index l.events)) l.heap l.id l.initial.self l.self l.initial.moved.items l.moved.items
