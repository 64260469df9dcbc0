use Rattle.std.proofs.Common.{◌≡◌, ◌++◌, map, take}
use Rattle.ownership_model.specs.Touched.{event_object}
use Rattle.agreement.proofs.suspects.Suspects.add_events.Given as goal

abbrev pub invariant-loop-event : goal.invariant-loop-event
invariant-loop-event l = l.self-inside.objects.items ≡ l.initial.self-inside.objects.items ++ map event_object (take l.event-index l.events)
