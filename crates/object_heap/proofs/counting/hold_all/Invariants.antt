use Rattle.std.proofs.Common.{◌≡◌, length, drop, take}
use Rattle.ownership_model.specs.State.{slots_weight}
use Rattle.object_heap.specs.Gains.{CountsMore, HasRoom}
use Rattle.object_heap.proofs.counting.hold_all.Given as goal

abbrev pub invariant-loop-slot : goal.invariant-loop-slot
invariant-loop-slot l = record {
  room : HasRoom l.objects.counts (length (drop l.slot-index l.slots));
  held : CountsMore l.fn.objects.counts l.objects.counts (λ w. slots_weight w (take l.slot-index l.slots));
  entries : l.objects.entries ≡ l.fn.objects.entries;
}
