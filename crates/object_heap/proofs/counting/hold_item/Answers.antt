use Rattle.std.proofs.Common.{arith, sym, subst}
use Rattle.std.specs.FinMap.{get}
use Rattle.trace_types.specs.declared.slots.Item.{Item}
use Rattle.object_heap.specs.declared.counters.Counters.{Counters}
use Rattle.object_heap.specs.TableView.{counters_at, plus}
use Rattle.object_heap.specs.Gains.{CountsItem}
use Rattle.object_heap.proofs.GainLemmas.{on_ok}
use Rattle.object_heap.proofs.PendingLemmas.{counts_slot, counts_end}
use Rattle.object_heap.proofs.counting.hold_item.Goals as goal

pub returns-in-Slot-clause-counts : goal.returns-in-Slot-clause-counts
returns-in-Slot-clause-counts c = on_ok c.hold.result c.hold.ensures.counts (λ has.
    subst (λ (x : Item). CountsItem c.args.objects.now.counts c.hold.new.objects.counts x) (sym c.in-Slot.is) (counts_slot c.args.objects.now.counts c.hold.new.objects.counts c.in-Slot.slot has))

pub returns-in-End-clause-counts : goal.returns-in-End-clause-counts
returns-in-End-clause-counts c =
    let more : Counters = plus (counters_at (get c.args.objects.now.counts c.in-End.object)) (record { strong = 0; weak = 0; ends = 1 }) in
    on_ok c.count_more.result c.count_more.ensures.set (λ set.
    subst (λ (x : Item). CountsItem c.args.objects.now.counts c.count_more.new.self.counts x) (sym c.in-End.is)
    (counts_end c.args.objects.now.counts c.count_more.new.self.counts c.in-End.object more set (omega arith) (omega arith) (omega arith)))
