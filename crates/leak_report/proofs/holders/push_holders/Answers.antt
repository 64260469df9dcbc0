use Rattle.std.proofs.Common.{refl}
use Rattle.leak_report.proofs.HolderLemmas.{object_more, objects_end}
use Rattle.leak_report.proofs.holders.push_holders.Goals as goal

pub loop-object-preserved : goal.loop-object-preserved
loop-object-preserved c = record {
  held = object_more c.args.heap.now c.loop-object.object-index c.args.objects.now _ _ _ c.loop-object.leaks.items c.push_entry_holders.new.leaks.items _ c.loop-object-test.true refl c.entry.ensures.value c.in_ok-push_entry_holders.ensures.value c.loop-object.invariant.held;
  same = c.in_ok-push_entry_holders.ensures.same;
}

pub returns : goal.returns
returns c = objects_end c.args.heap.now c.loop-object.object-index c.args.objects.now c.loop-object.leaks.items _ c.loop-object-test.false c.loop-object.invariant.held
