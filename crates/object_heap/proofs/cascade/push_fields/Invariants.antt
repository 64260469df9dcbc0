use Rattle.std.proofs.Common.{◌≡◌, ◌≤◌, length, drop, ◌∷◌}
use Rattle.trace_types.specs.declared.slots.Item.TheVariants as item
use Rattle.ownership_model.specs.Release.{drops}
use Rattle.object_heap.proofs.cascade.push_fields.Given as goal

abbrev pub invariant-loop-left : goal.invariant-loop-left
invariant-loop-left l = record {
  in_range : l.left ≤ length l.fields;
  pushed : l.pending.items ≡ drops (drop l.left l.fields) (item.End l.object ∷ l.fn.pending.items);
}

abbrev pub decreases-loop-left : goal.decreases-loop-left
decreases-loop-left l = l.left
