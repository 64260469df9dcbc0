use Rattle.std.proofs.Common.{◌∙◌, ap, sym, subst}
use Rattle.run_engine.specs.inner.Parts.{joined}
use Rattle.run_engine.specs.inner.Exchanged.{AreExchangeable}
use Rattle.run_engine.proofs.BlocksLemmas.{exchangeable-block}
use Rattle.run_engine.proofs.segments.blocks.Segments.exchanged.Goals as goal

pub exchanged-requires : goal.exchanged-requires
exchanged-requires c =
    exchangeable-block c.args.remains.now c.deref-block-items.result.now c.loop-block.block-index c.block-item.result c.loop-block-test.true c.block-item.is
    (subst (AreExchangeable c.args.remains.now) (sym (ap joined c.deref-block-items.ensures.value ∙ c.self.view_is)) c.requires)
