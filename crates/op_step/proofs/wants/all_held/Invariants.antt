use Rattle.std.proofs.Common.{◌≡◌, drop}
use Rattle.ownership_model.specs.View.{elements_of}
use Rattle.ownership_model.specs.Table.{first_unheld}
use Rattle.op_step.proofs.wants.all_held.Given as goal

-- the first of what is left is the first of all
abbrev pub invariant-loop-field : goal.invariant-loop-field
invariant-loop-field l = first_unheld (elements_of l.heap (drop l.field-index l.fields)) ≡ first_unheld (elements_of l.fn.heap l.fn.fields)
