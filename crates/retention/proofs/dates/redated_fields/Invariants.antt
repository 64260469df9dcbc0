use Rattle.std.proofs.Common.{◌≡◌, ◌++◌, drop, length}
use Rattle.retention.specs.Dates.{redated_all}
use Rattle.retention.proofs.dates.redated_fields.Given as goal

abbrev pub invariant-loop-i : goal.invariant-loop-i
invariant-loop-i l = record {
  count : length l.slots.items ≡ l.i;
  rest : l.slots.items ++ redated_all l.id (drop l.i l.old.slots.items) (drop l.i l.fields) ≡ redated_all l.id l.old.slots.items l.fields;
}
