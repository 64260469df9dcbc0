use Rattle.std.proofs.Common.{◌≡◌, ◌++◌, map, drop}
use Rattle.ownership_model.specs.declared.key.Key.TheVariants.{Handle}
use Rattle.ownership_model.specs.View.{held_fields}
use Rattle.heap_difference.proofs.naming.add_fields.Given as goal

abbrev pub invariant-loop-field : goal.invariant-loop-field
invariant-loop-field l = l.keys.items ++ map Handle (held_fields (drop l.field-index l.fields)) ≡ l.fn.keys.items ++ map Handle (held_fields l.fields)
