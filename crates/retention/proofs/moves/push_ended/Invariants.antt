use Rattle.std.proofs.Common.{◌≡◌, ◌++◌, take, map}
use Rattle.retention_model.specs.Turns.{ended_mark}
use Rattle.retention.proofs.moves.push_ended.Given as goal

abbrev pub invariant-loop-event : goal.invariant-loop-event
invariant-loop-event l = l.marked.items ≡ l.initial.marked.items ++ map (ended_mark l.position l.heap) (take l.event-index l.events)
