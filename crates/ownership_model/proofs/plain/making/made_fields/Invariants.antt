use Rattle.std.proofs.Common.{◌≡◌, ◌++◌, drop}
use Rattle.ownership_model.specs.View.{elements_of}
use Rattle.ownership_model.specs.Table.{made_fields}
use Rattle.ownership_model.specs.Plain.{state_of}
use Rattle.ownership_model.proofs.plain.making.made_fields.Given as goal

-- the fields so far and those that are left are all
abbrev pub invariant-loop-field : goal.invariant-loop-field
invariant-loop-field l =
    l.made.items ++ made_fields l.id (elements_of (state_of l.state) (drop l.field-index l.fields))
    ≡ made_fields l.fn.id (elements_of (state_of l.fn.state) l.fn.fields)
