use Rattle.std.proofs.Common.{◌≡◌, map, take}
use Rattle.std.specs.FinMap.{get}
use Rattle.ownership_model.specs.State.{is_alive}
use Rattle.retention.proofs.named.which_live.Given as goal

abbrev pub invariant-loop-object : goal.invariant-loop-object
invariant-loop-object l = l.alive.items ≡ map (λ o. is_alive (get l.heap.objects o)) (take l.object-index l.objects)
