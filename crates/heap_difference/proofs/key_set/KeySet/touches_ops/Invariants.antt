use Rattle.std.proofs.Common.{◌≡◌, take, false}
use Rattle.std.specs.List.{list_any}
use Rattle.heap_difference.specs.KeySets.{is_among}
use Rattle.heap_difference.specs.Naming.{op_keys}
use Rattle.heap_difference.proofs.key_set.KeySet.touches_ops.Given as goal

abbrev pub invariant-loop-op : goal.invariant-loop-op
invariant-loop-op l = list_any (λ op. list_any (is_among l.self) (op_keys op)) (take l.op-index l.ops) ≡ false
