use Rattle.std.proofs.Common.{◌≡◌, ◌++◌, map, take}
use Rattle.ownership_model.specs.declared.key.Key.TheVariants.{Object}
use Rattle.ownership_model.specs.Touched.{event_object}
use Rattle.heap_difference.proofs.naming.add_events.Given as goal

abbrev pub invariant-loop-event : goal.invariant-loop-event
invariant-loop-event l = l.keys.items ≡ l.fn.keys.items ++ map Object (map event_object (take l.event-index l.events))
