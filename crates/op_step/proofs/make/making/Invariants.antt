use Rattle.std.proofs.Common.{◌≡◌, ◌++◌, drop}
use Rattle.ownership_model.specs.View.{elements_of}
use Rattle.ownership_model.specs.Table.{ending, make}
use Rattle.op_step.proofs.make.making.Given as goal

-- the changes so far and those that are left are all
abbrev pub invariant-loop-field : goal.invariant-loop-field
invariant-loop-field l =
    l.changes.items ++ ending (elements_of l.heap (drop l.field-index l.fields)) (make l.label l.id l.made.items l.to)
    ≡ ending (elements_of l.fn.heap l.fn.fields) (make l.fn.label l.fn.id l.made.items l.fn.to)
