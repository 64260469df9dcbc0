use Rattle.std.proofs.Common.{◌∙◌, arith}
use Rattle.object_heap.proofs.GainLemmas.{room_next, held_next}
use Rattle.object_heap.proofs.counting.hold_all.Goals as goal

pub loop-slot-preserved : goal.loop-slot-preserved
loop-slot-preserved c = record {
  room = room_next c.args.slots.now c.loop-slot.slot-index _ (omega arith) c.loop-slot.objects.counts c.hold.new.objects.counts c.loop-slot.invariant.room c.in_ok-hold.ensures.counts;
  held = held_next c.args.slots.now c.loop-slot.slot-index _ (omega arith) c.args.objects.now.counts c.loop-slot.objects.counts c.hold.new.objects.counts c.loop-slot.invariant.held c.in_ok-hold.ensures.counts;
  entries = c.in_ok-hold.ensures.entries ∙ c.loop-slot.invariant.entries;
}
