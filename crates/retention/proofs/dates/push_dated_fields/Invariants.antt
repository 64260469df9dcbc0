use Rattle.std.proofs.Common.{◌≡◌, ◌++◌, drop}
use Rattle.retention.specs.Dates.{field_place}
use Rattle.retention.specs.Lists.{held_fields}
use Rattle.retention.proofs.dates.push_dated_fields.Given as goal

abbrev pub invariant-loop-i : goal.invariant-loop-i
invariant-loop-i l =
    l.held.items ++ held_fields (field_place l.owner) l.i (drop l.i l.fields.slots.items) ≡ l.initial.held.items ++ held_fields (field_place l.owner) 0 l.fields.slots.items
