use Rattle.std.proofs.Common.{◌≡◌, take}
use Rattle.chunk_workers.specs.Chunks.{AreFound}
use Rattle.chunk_workers.proofs.places.in_order.Given as goal

abbrev pub invariant-loop-i : goal.invariant-loop-i
invariant-loop-i l = record {
  found : AreFound l.jobs l.found.items;
  chunks : l.chunks.items ≡ take l.i l.jobs;
}
