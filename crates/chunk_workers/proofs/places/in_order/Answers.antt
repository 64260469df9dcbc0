use Rattle.std.proofs.Common.{◌∙◌}
use Rattle.chunk_workers.proofs.Found.{take_one_more}
use Rattle.chunk_workers.proofs.places.in_order.Goals as goal

pub loop-i-preserved : goal.loop-i-preserved
loop-i-preserved c = record {
  found = c.taken.ensures.found;
  chunks = c.in_ok-push.ensures.items ∙ take_one_more c.loop-i.chunks.items c.args.jobs.now c.loop-i.i c.in_ok-chunk_of.field-0 c.loop-i.invariant.chunks c.in_ok-chunk_of.ensures;
}
