use Rattle.std.proofs.Common.{◌≡◌, ◌++◌, map, Some}
use Rattle.std.specs.Vec.Iter.{into_iter_items}
use Rattle.live_sessions.proofs.race.all_left.Given as goal

abbrev pub invariant-loop-receipt : goal.invariant-loop-receipt
invariant-loop-receipt g l = map Some l.receipts.items ++ into_iter_items l.receipt-iterator ≡ l.fn.left.items
