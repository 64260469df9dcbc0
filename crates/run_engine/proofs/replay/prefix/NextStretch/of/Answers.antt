use Rattle.std.proofs.Common.{refl}
use Rattle.run_engine.proofs.PieceLemmas.{IsPiece-one, anchored}
use Rattle.run_engine.proofs.replay.prefix.NextStretch.of.Goals as goal

pub returns-clause-piece : goal.returns-clause-piece
returns-clause-piece c =
    rw (c.in_ok-segments.ensures, c.empty.ensures, c.in_ok-filtered.ensures, c.in_ok-segment.ensures.value, c.in_ok-share.ensures, c.ops.ensures.value)
    (IsPiece-one c.args.chunk.now.start _ _ _ c.args.chunk.now.ops _ c.requires (anchored c.args.chunk.now.start c.args.is_anchored) c.in_ok-segment.ensures.keys refl c.end.ensures)
