use Rattle.std.proofs.Common.{take}
use Rattle.std.specs.Prelude.{flat_map}
use Rattle.heap_difference.specs.Filters.{HasPutIn}
use Rattle.heap_difference.proofs.FilterLemmas.{event_keys}
use Rattle.heap_difference.proofs.filter.Filter.put_events.Given as goal

abbrev pub invariant-loop-event : goal.invariant-loop-event
invariant-loop-event l = HasPutIn l.fn.self l.self (flat_map event_keys (take l.event-index l.events))
