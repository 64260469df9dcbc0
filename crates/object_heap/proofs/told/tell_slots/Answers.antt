use Rattle.std.proofs.Common.{arith}
use Rattle.ownership_model.specs.Footprint.{slot_keys}
use Rattle.object_heap.proofs.CoverLemmas.{covers_next, covers_all}
use Rattle.object_heap.proofs.told.tell_slots.Goals as goal

pub loop-slot-preserved : goal.loop-slot-preserved
loop-slot-preserved c =
    covers_next slot_keys c.args.slots.now c.loop-slot.slot-index _ c.loop-slot-test.true c.args.keys.now.items c.loop-slot.keys.items c.tell_slot.new.keys.items c.loop-slot.invariant c.in_ok-tell_slot.ensures

pub returns : goal.returns
returns c = covers_all slot_keys c.args.slots.now c.loop-slot.slot-index c.loop-slot-test.false c.args.keys.now.items c.loop-slot.keys.items c.loop-slot.invariant
