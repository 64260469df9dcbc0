use Rattle.std.proofs.Common.{◌≡◌, ◌++◌, take}
use Rattle.retention_model.specs.declared.place.Place.{Place}
use Rattle.retention_model.specs.Turns.{at_place}
use Rattle.retention.specs.Dates.{index_in, moved_field}
use Rattle.retention.proofs.dates.note_fields.Given as goal

-- what moved at the fields so far
abbrev pub invariant-loop-i : goal.invariant-loop-i
invariant-loop-i l =
    (p : Place) → at_place p l.moved.items ≡ at_place p l.initial.moved.items ++ moved_field (index_in l.owner p) p (take l.i l.old.slots.items) (take l.i l.fields)
