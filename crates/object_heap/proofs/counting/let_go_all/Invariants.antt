use Rattle.std.proofs.Common.{◌≡◌, drop, take}
use Rattle.ownership_model.specs.State.{slots_weight}
use Rattle.object_heap.specs.Gains.{CountsMore, HasSlots}
use Rattle.object_heap.proofs.counting.let_go_all.Given as goal

abbrev pub invariant-loop-slot : goal.invariant-loop-slot
invariant-loop-slot l = record {
  still : HasSlots l.objects.counts (λ w. slots_weight w (drop l.slot-index l.slots));
  gone : CountsMore l.objects.counts l.fn.objects.counts (λ w. slots_weight w (take l.slot-index l.slots));
  entries : l.objects.entries ≡ l.fn.objects.entries;
}
