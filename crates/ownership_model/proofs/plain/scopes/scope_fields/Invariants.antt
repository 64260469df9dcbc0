use Rattle.std.proofs.Common.{◌≡◌, ◌++◌, drop}
use Rattle.std.specs.Prelude.{map}
use Rattle.trace_types.specs.declared.kinds.Field.TheVariants as field
use Rattle.ownership_model.specs.Scopes.{scope_of}
use Rattle.ownership_model.proofs.plain.scopes.scope_fields.Given as goal

-- the handles so far and those of the rest are those of the scope
abbrev pub invariant-loop-scoped : goal.invariant-loop-scoped
invariant-loop-scoped l = l.fields.items ++ map field.Held (scope_of l.label (drop l.scoped-index l.scopes)) ≡ map field.Held (scope_of l.fn.label l.fn.scopes)
