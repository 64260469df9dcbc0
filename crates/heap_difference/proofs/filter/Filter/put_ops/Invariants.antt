use Rattle.std.proofs.Common.{take}
use Rattle.std.specs.Prelude.{flat_map}
use Rattle.heap_difference.specs.Naming.{op_keys}
use Rattle.heap_difference.specs.Filters.{HasPutIn}
use Rattle.heap_difference.proofs.filter.Filter.put_ops.Given as goal

abbrev pub invariant-loop-op : goal.invariant-loop-op
invariant-loop-op l = HasPutIn l.fn.self l.self (flat_map op_keys (take l.op-index l.ops))
