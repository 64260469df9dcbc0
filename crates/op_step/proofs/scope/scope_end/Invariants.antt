use Rattle.std.proofs.Common.{◌≡◌, ◌++◌, ◌-◌, [], length, drop}
use Rattle.std.specs.Prelude.{map}
use Rattle.trace_types.specs.declared.kinds.Field.TheVariants as field
use Rattle.ownership_model.specs.Scopes.{scope_of}
use Rattle.ownership_model.specs.View.{elements_of}
use Rattle.ownership_model.specs.Table.{ending, held_drops}
use Rattle.object_heap.specs.Links.{first_of}
use Rattle.op_step.proofs.scope.scope_end.Given as goal

-- as many handles of the scope ended as there are changes; the next is the first of those left, and what these add makes all
abbrev pub invariant-loop-next : goal.invariant-loop-next
invariant-loop-next l = record {
  next : l.next ≡ first_of (drop (length l.changes.items) (scope_of l.label l.heap.scopes));
  changes : l.changes.items ++ ending (elements_of l.heap (map field.Held (drop (length l.changes.items) (scope_of l.label l.heap.scopes)))) [] ≡ ending (elements_of l.fn.heap (map field.Held (scope_of l.fn.label l.fn.heap.scopes))) [];
  pending : l.pending.items ++ held_drops (elements_of l.heap (map field.Held (drop (length l.changes.items) (scope_of l.label l.heap.scopes)))) ≡ held_drops (elements_of l.fn.heap (map field.Held (scope_of l.fn.label l.fn.heap.scopes)));
}

-- the handles that are left
abbrev pub decreases-loop-next : goal.decreases-loop-next
decreases-loop-next l = length (scope_of l.label l.heap.scopes) - length l.changes.items
