use Rattle.std.proofs.Common.{◌≡◌, ◌+◌, drop}
use Rattle.ownership_model.specs.Totals.{total_in}
use Rattle.ownership_model.specs.State.{holding_weight, names_alike}
use Rattle.ownership_model.proofs.plain.state.count_in_handles.Given as goal

-- the count so far and that of what is left is that of all
abbrev pub invariant-loop-handle : goal.invariant-loop-handle
invariant-loop-handle l = l.count + total_in (holding_weight (names_alike l.counted)) (drop l.handle-index l.handles) ≡ total_in (holding_weight (names_alike l.fn.counted)) l.fn.handles
