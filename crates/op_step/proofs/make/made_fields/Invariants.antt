use Rattle.std.proofs.Common.{◌≡◌, ◌++◌, drop}
use Rattle.ownership_model.specs.View.{elements_of}
use Rattle.ownership_model.specs.Table.{made_fields}
use Rattle.op_step.proofs.make.made_fields.Given as goal

-- the fields so far and those that are left are all
abbrev pub invariant-loop-field : goal.invariant-loop-field
invariant-loop-field l = l.made.items ++ made_fields l.id (elements_of l.heap (drop l.field-index l.fields)) ≡ made_fields l.fn.id (elements_of l.fn.heap l.fn.fields)
