use Rattle.std.proofs.Common.{◌≡◌, ◌++◌, drop}
use Rattle.ownership_model.specs.View.{held_fields}
use Rattle.ownership_model.proofs.plain.names.push_held.Given as goal

-- the handles so far and those that are left are all
abbrev pub invariant-loop-field : goal.invariant-loop-field
invariant-loop-field l = l.handles.items ++ held_fields (drop l.field-index l.fields) ≡ l.fn.handles.items ++ held_fields l.fn.fields
