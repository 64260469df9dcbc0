use Rattle.std.proofs.Common.{◌∙◌, arith}
use Rattle.object_heap.proofs.GainLemmas.{still_next, gone_next}
use Rattle.object_heap.proofs.counting.let_go_all.Goals as goal

pub loop-slot-preserved : goal.loop-slot-preserved
loop-slot-preserved c = record {
  still = still_next c.args.slots.now c.loop-slot.slot-index _ (omega arith) c.loop-slot.objects.counts c.let_go.new.objects.counts c.loop-slot.invariant.still c.in_ok-let_go.ensures.counts;
  gone = gone_next c.args.slots.now c.loop-slot.slot-index _ (omega arith) c.args.objects.now.counts c.loop-slot.objects.counts c.let_go.new.objects.counts c.loop-slot.invariant.gone c.in_ok-let_go.ensures.counts;
  entries = c.in_ok-let_go.ensures.entries ∙ c.loop-slot.invariant.entries;
}
