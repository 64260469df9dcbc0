use Rattle.std.proofs.Common.{◌≡◌, ◌++◌}
use Rattle.std.specs.Iterator.Adapters.{zip_first, zip_second}
use Rattle.std.specs.Slice.Iter.{iter_rest}
use Rattle.ownership_model.specs.Sets.{set_names_of}
use Rattle.heap_difference.proofs.setting.add_named.Given as goal

abbrev pub invariant-loop-op : goal.invariant-loop-op
invariant-loop-op l = record {
  can_go_on : (goal.iterator-loop-op).can_next l.op-iterator × (goal.iterator-loop-op).is_finite l.op-iterator;
  so_far : l.fn.keys.items ++ set_names_of l.ops l.outcomes ≡ l.keys.items ++ set_names_of (iter_rest (zip_first l.op-iterator)) (iter_rest (zip_second l.op-iterator));
}
