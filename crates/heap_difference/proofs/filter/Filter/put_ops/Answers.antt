use Rattle.heap_difference.specs.Naming.{op_keys}
use Rattle.heap_difference.proofs.FilterLemmas.{put_part}
use Rattle.heap_difference.proofs.filter.Filter.put_ops.Goals as goal

pub loop-op-preserved : goal.loop-op-preserved
loop-op-preserved c = put_part op_keys c.args.self.now c.loop-op.self c.put_op.new.self c.args.ops.now c.loop-op.op-index c.op-item.result c.loop-op-test.true c.op-item.is c.loop-op.invariant c.put_op.ensures
