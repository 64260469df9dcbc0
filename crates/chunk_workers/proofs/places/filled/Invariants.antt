use Rattle.std.specs.List.{All}
use Rattle.std.specs.Vec.Iter.{into_iter_items}
use Rattle.chunk_workers.specs.Chunks.{AllOfJobs, AreFound}
use Rattle.chunk_workers.proofs.places.filled.Given as goal

abbrev pub invariant-loop-part : goal.invariant-loop-part
invariant-loop-part l = record {
  found : AreFound l.jobs l.found.items;
  rest : All (λ part. AllOfJobs l.jobs part.items) (into_iter_items l.part-iterator);
}
