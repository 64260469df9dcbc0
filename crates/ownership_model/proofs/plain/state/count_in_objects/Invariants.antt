use Rattle.std.proofs.Common.{◌≡◌, ◌+◌, drop}
use Rattle.ownership_model.specs.Totals.{total_in}
use Rattle.ownership_model.specs.State.{entry_weight, names_alike}
use Rattle.ownership_model.proofs.plain.state.count_in_objects.Given as goal

-- the count so far and that of what is left is that of all
abbrev pub invariant-loop-object : goal.invariant-loop-object
invariant-loop-object l = l.count + total_in (entry_weight (names_alike l.counted)) (drop l.object-index l.objects) ≡ total_in (entry_weight (names_alike l.fn.counted)) l.fn.objects
