use Rattle.std.proofs.Common.{◌∙◌, ap}
use Rattle.lru.specs.LruCache.{lru_cache}
use Rattle.mark_shelf.proofs.ChunkLemmas.{put-above}
use Rattle.mark_shelf.proofs.memo.keep.Goals as goal

pub returns-clause-ok : goal.returns-clause-ok
returns-clause-ok c = λ _. c.in-Ok.ensures.entries ∙ ap (λ es. lru_cache es c.args.chunks.now.cap) (put-above c.args.chunks.now c.args.number c.args.chunk c.len-count.ensures.valid.2 c.requires)
