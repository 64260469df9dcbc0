use Rattle.std.proofs.Common.{◌≡◌, ◌++◌, take}
use Rattle.run_engine.proofs.editing.listing.push_copies.Given as goal

abbrev pub invariant-loop-op : goal.invariant-loop-op
invariant-loop-op l = l.copies.items ≡ l.initial.copies.items ++ take l.op-index l.ops
