use Rattle.std.proofs.Common.{◌≤◌, ◌+◌, length, drop}
use Rattle.heap_difference.proofs.MergeLemmas.{IsMerging}
use Rattle.heap_difference.proofs.numbers.merged.Given as goal

abbrev pub invariant-loop-number : goal.invariant-loop-number
invariant-loop-number l = record {
  first_within : l.i ≤ length l.a;
  second_within : l.j ≤ length l.b;
  merging : IsMerging l.a l.b l.all.items (drop l.i l.a) (drop l.j l.b);
}

abbrev pub decreases-loop-number : goal.decreases-loop-number
decreases-loop-number l = length (drop l.i l.a) + length (drop l.j l.b)
