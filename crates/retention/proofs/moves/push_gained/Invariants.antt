use Rattle.std.proofs.Common.{◌≡◌, ◌++◌, take, flat_map}
use Rattle.retention_model.specs.Turns.{gained_mark}
use Rattle.retention.proofs.moves.push_gained.Given as goal

abbrev pub invariant-loop-one : goal.invariant-loop-one
invariant-loop-one l = l.marked.items ≡ l.initial.marked.items ++ flat_map (gained_mark l.position l.heap) (take l.one-index l.moved)
