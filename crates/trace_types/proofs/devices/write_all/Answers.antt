use Rattle.std.proofs.Common.{rules}
use Rattle.trace_types.proofs.Bytes.{written_more}
use Rattle.trace_types.proofs.devices.write_all.Goals as goal

pub writes-preserved : goal.writes-preserved
writes-preserved g c = record {
  within = search rules;
  written = written_more _ _ _ c.args.bytes.now c.writes.at c.in_ok-at.field-0 (search rules) (search rules) c.writes.invariant.written c.in_ok-at.ensures.bytes;
  flag = search rules;
}
