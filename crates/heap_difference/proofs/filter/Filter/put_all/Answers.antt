use Rattle.heap_difference.proofs.FilterLemmas.{put_next}
use Rattle.heap_difference.proofs.filter.Filter.put_all.Goals as goal

pub loop-key-preserved : goal.loop-key-preserved
loop-key-preserved c = put_next c.args.self.now c.loop-key.self c.put.new.self c.args.keys.now c.loop-key.key-index _ c.loop-key-test.true c.loop-key.invariant c.put.ensures
