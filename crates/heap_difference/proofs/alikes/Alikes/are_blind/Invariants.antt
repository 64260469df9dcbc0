use Rattle.std.proofs.Common.{◌≡◌}
use Rattle.heap_difference.specs.Blind.{are_blind}
use Rattle.std.specs.Iterator.Adapters.{zip_first, zip_second}
use Rattle.std.specs.Slice.Iter.{iter_rest}
use Rattle.heap_difference.proofs.alikes.Alikes.are_blind.Given as goal

abbrev pub invariant-loop-op : goal.invariant-loop-op
invariant-loop-op l = record {
  can_go_on : (goal.iterator-loop-op).can_next l.op-iterator × (goal.iterator-loop-op).is_finite l.op-iterator;
  so_far : are_blind l.self.shifts.items l.self.fields.items l.ops l.outcomes ≡ are_blind l.self.shifts.items l.self.fields.items (iter_rest (zip_first l.op-iterator)) (iter_rest (zip_second l.op-iterator));
}
