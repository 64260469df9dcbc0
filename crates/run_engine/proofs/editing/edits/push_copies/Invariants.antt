use Rattle.std.proofs.Common.{◌≡◌, ◌++◌, take}
use Rattle.run_engine.proofs.editing.edits.push_copies.Given as goal

abbrev pub invariant-loop-op : goal.invariant-loop-op
invariant-loop-op l = l.trace ≡ l.initial.trace ++ take l.op-index l.ops
