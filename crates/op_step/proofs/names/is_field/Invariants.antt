use Rattle.std.proofs.Common.{◌≡◌, ◌==◌, drop}
use Rattle.std.specs.List.{list_any}
use Rattle.ownership_model.specs.View.{held_fields}
use Rattle.op_step.proofs.names.is_field.Given as goal

-- whether one of what is left is the handle is whether one of all is
abbrev pub invariant-loop-field : goal.invariant-loop-field
invariant-loop-field l = list_any (λ b. b == l.h) (held_fields (drop l.field-index l.fields)) ≡ list_any (λ b. b == l.fn.h) (held_fields l.fn.fields)
