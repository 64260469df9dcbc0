use Rattle.std.proofs.Common.{◌≡◌, ◌+◌, drop}
use Rattle.ownership_model.specs.State.{items_weight, names_alike}
use Rattle.ownership_model.proofs.plain.state.count_in_items.Given as goal

-- the count so far and that of what is left is that of all
abbrev pub invariant-loop-item : goal.invariant-loop-item
invariant-loop-item l = l.count + items_weight (names_alike l.counted) (drop l.item-index l.items) ≡ items_weight (names_alike l.fn.counted) l.fn.items
