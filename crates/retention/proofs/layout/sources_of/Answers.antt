use Rattle.std.proofs.Common.{sym, subst, arith}
use Rattle.retention.proofs.LayoutLemmas.{AreBeingSourced, sourcing_more}
use Rattle.retention.proofs.layout.sources_of.Goals as goal

pub fields-preserved : goal.fields-preserved
fields-preserved c =
    subst (λ xs. AreBeingSourced c.args.starts.now xs c.loop-index.index) (sym c.in_ok-push.ensures.items)
    (sourcing_more c.args.starts.now c.fields.sources.items c.loop-index.index c.fields.invariant (λ i h. c.requires.rising i (omega (arith, h, c.loop-index-test.true)))
    (omega (arith, c.fields-test.true, c.len.ensures, c.fields.sources.ok.0)))
