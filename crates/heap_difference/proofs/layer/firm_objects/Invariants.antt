use Rattle.std.proofs.Common.{◌≡◌, ℕ, take}
use Rattle.std.specs.Prelude.{◌&&◌, not}
use Rattle.ownership_model.specs.Reach.{has}
use Rattle.heap_difference.specs.Alikes.{is_alike}
use Rattle.heap_difference.proofs.layer.firm_objects.Given as goal

abbrev pub invariant-loop-object : goal.invariant-loop-object
invariant-loop-object l = (o : ℕ) → has o l.firm.items ≡ (has o (take l.object-index l.objects) && not (is_alike l.alikes.shifts.items o))
