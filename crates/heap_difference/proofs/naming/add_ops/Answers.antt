use Rattle.std.proofs.Common.{arith}
use Rattle.heap_difference.specs.Naming.{op_keys}
use Rattle.heap_difference.proofs.NamingLemmas.{parts_next}
use Rattle.heap_difference.proofs.naming.add_ops.Goals as goal

pub loop-op-preserved : goal.loop-op-preserved
loop-op-preserved c =
    parts_next op_keys c.args.ops.now c.loop-op.op-index c.op-item.result (omega arith) c.op-item.is c.args.keys.now.items c.loop-op.keys.items c.add_op.new.keys.items c.loop-op.invariant c.in_ok-add_op.ensures
