use Rattle.std.proofs.Common.{ap, sym}
use Rattle.op_step.specs.Chunk.{Chunk}
use Rattle.run_engine.proofs.replay.prefix.stepped.Goals as goal

pub returns-clause-piece : goal.returns-clause-piece
returns-clause-piece c = rw c.in_ok-chunk.ensures.chunk at c.in_ok-piece.ensures.piece

pub returns-clause-next : goal.returns-clause-next
returns-clause-next c = λ chunks. record {
  start_is = ap (λ (k : Chunk). k.start) c.in_ok-chunk.ensures.chunk;
  end_is = sym c.in_ok-piece.ensures.end;
  kept = tt;
}
