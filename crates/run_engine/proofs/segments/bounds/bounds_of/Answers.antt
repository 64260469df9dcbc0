use Rattle.std.proofs.Common.{◌≡◌, ◌+◌, [], ◌∷◌, ◌++◌, take, ap, sym, subst, ◌∙◌, arith}
use Rattle.std.proofs.lemmas.List.{take_more}
use Rattle.run_engine.specs.inner.Parts.{AreBetween}
use Rattle.run_engine.proofs.PartLemmas.{between-more}
use Rattle.run_engine.proofs.segments.bounds.bounds_of.Goals as goal

pub loop-op-preserved : goal.loop-op-preserved
loop-op-preserved c =
    let more : take (c.loop-op.op-index + 1) c.args.ops.now ≡ take c.loop-op.op-index c.args.ops.now ++ c.op-item.result ∷ [] =
    take_more c.args.ops.now c.loop-op.op-index c.op-item.result c.loop-op-test.true ∙ ap (λ x. take c.loop-op.op-index c.args.ops.now ++ x ∷ []) (sym c.op-item.is) in
    subst (AreBetween c.min.result c.max.result) (sym more)
    (between-more c.loop-op.bounds.least c.loop-op.bounds.greatest c.min.result c.max.result (take c.loop-op.op-index c.args.ops.now) c.op-item.result
    (omega (arith, c.min.ensures)) (omega (arith, c.max.ensures)) (omega (arith, c.min.ensures, c.id-id.ensures.value)) (omega (arith, c.max.ensures, c.id-id.ensures.value)) c.loop-op.invariant)
