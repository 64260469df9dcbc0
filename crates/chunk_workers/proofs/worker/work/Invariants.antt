use Rattle.std.specs.List.{All}
use Rattle.chunk_workers.specs.Chunks.{IsOfJob}
use Rattle.chunk_workers.proofs.worker.work.Given as goal

abbrev pub invariant-loop : goal.invariant-loop
invariant-loop g l = All (IsOfJob l.jobs) l.done.items
