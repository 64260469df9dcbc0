use Rattle.std.proofs.Common.{◌≡◌, take, IsTrue, string_bytes}
use Rattle.std.specs.List.{list_all}
use Rattle.trace_types.specs.Limits.{is_within_limits}
use Rattle.trace_reader.specs.Writing.{lines_text}
use Rattle.trace_reader.proofs.write.lines.Given as goal

abbrev pub invariant-loop-op : goal.invariant-loop-op
invariant-loop-op l = record {
  lines : string_bytes l.text ≡ lines_text (take l.op-index l.ops);
  within : IsTrue (list_all is_within_limits (take l.op-index l.ops));
}
