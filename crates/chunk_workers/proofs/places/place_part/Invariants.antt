use Rattle.std.specs.List.{All}
use Rattle.std.specs.Vec.Iter.{into_iter_items}
use Rattle.chunk_workers.specs.Chunks.{IsOfJob, AreFound}
use Rattle.chunk_workers.proofs.places.place_part.Given as goal

abbrev pub invariant-loop-done : goal.invariant-loop-done
invariant-loop-done l = record {
  found : AreFound l.jobs l.found.items;
  rest : All (IsOfJob l.jobs) (into_iter_items l.done-iterator);
}
