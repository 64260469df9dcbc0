use Rattle.std.proofs.Common.{◌≡◌, ◌++◌, take, flat_map}
use Rattle.retention.specs.Lists.{loss_of}
use Rattle.retention.proofs.moves.push_losses.Given as goal

abbrev pub invariant-loop-one : goal.invariant-loop-one
invariant-loop-one l = l.losses.items ≡ l.initial.losses.items ++ flat_map (loss_of l.id) (take l.one-index l.moved)
