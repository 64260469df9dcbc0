use Rattle.std.proofs.Common.{◌≡◌, drop}
use Rattle.ownership_model.specs.View.{elements_of}
use Rattle.ownership_model.specs.Table.{first_bare}
use Rattle.ownership_model.specs.Plain.{state_of}
use Rattle.ownership_model.proofs.plain.wants.all_slots.Given as goal

-- the first of what is left is the first of all
abbrev pub invariant-loop-field : goal.invariant-loop-field
invariant-loop-field l = first_bare (elements_of (state_of l.state) (drop l.field-index l.fields)) ≡ first_bare (elements_of (state_of l.fn.state) l.fn.fields)
