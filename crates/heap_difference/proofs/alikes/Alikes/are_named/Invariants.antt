use Rattle.std.proofs.Common.{◌≡◌, take, false}
use Rattle.std.specs.List.{list_any}
use Rattle.heap_difference.specs.Blind.{names_alike_event}
use Rattle.heap_difference.proofs.alikes.Alikes.are_named.Given as goal

abbrev pub invariant-loop-event : goal.invariant-loop-event
invariant-loop-event l = list_any (names_alike_event l.self.shifts.items) (take l.event-index l.events) ≡ false
