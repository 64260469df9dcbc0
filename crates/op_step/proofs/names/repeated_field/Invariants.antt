use Rattle.std.proofs.Common.{◌≡◌, [], ◌∷◌}
use Rattle.ownership_model.specs.View.{held_fields, repeated_in}
use Rattle.op_step.proofs.NameLemmas.{repeated_from}
use Rattle.op_step.proofs.names.repeated_field.Given as goal

-- the first of what is left, after those that were met, is the first of all
abbrev pub invariant-loop-place : goal.invariant-loop-place
invariant-loop-place l = repeated_from l.to l.fields l.place ≡ repeated_in (l.fn.to ∷ []) (held_fields l.fn.fields)
