use Rattle.std.proofs.Common.{refl}
use Rattle.leak_report.proofs.HolderLemmas.{field_more, fields_end}
use Rattle.leak_report.proofs.holders.push_field_holders.Goals as goal

pub loop-i-preserved : goal.loop-i-preserved
loop-i-preserved c = record {
  held = field_more c.args.object c.loop-i.i c.args.fields.now _ _ c.loop-i.leaks.items c.push_holder.new.leaks.items _ c.loop-i-test.true refl c.in_ok-push_holder.ensures.value c.loop-i.invariant.held;
  same = c.in_ok-push_holder.ensures.same;
}

pub returns-clause-value : goal.returns-clause-value
returns-clause-value c = fields_end c.args.object c.loop-i.i c.args.fields.now c.loop-i.leaks.items _ c.loop-i-test.false c.loop-i.invariant.held
