use Rattle.std.proofs.Common.{◌≡◌, ◌+◌, ◌++◌, ◌∙◌, ap, refl, arith, length, length-append, take}
use Rattle.std.specs.Prelude.{slice_range}
use Rattle.run_engine.specs.inner.Parts.{joined}
use Rattle.run_engine.proofs.PartLemmas.{joined-next, joined-few}
use Rattle.run_engine.proofs.BlocksLemmas.{stretch-next}
use Rattle.run_engine.proofs.segments.blocks.Segments.stretch.Goals as goal

pub overflow_add-at : goal.overflow_add-at
overflow_add-at c =
    let blocks = c.deref-block-items.result.now in
    let i = c.loop-block.block-index in
    let b = c.block-item.result in
    let next : length (joined (take (c.loop-block.block-index + 1) c.deref-block-items.result.now)) ≡ length (joined (take c.loop-block.block-index c.deref-block-items.result.now)) + length c.block-item.result = ap length (joined-next blocks i b c.loop-block-test.true c.block-item.is) ∙ length-append (joined (take i blocks)) b in
    omega (arith, joined-few c.deref-block-items.result.now (c.loop-block.block-index + 1), ap (λ bs. length (joined bs)) c.deref-block-items.ensures.value, c.self.invariant.1, c.self.invariant.2, c.loop-block.invariant.at, c.len-len.ensures)

pub loop-block-preserved : goal.loop-block-preserved
loop-block-preserved c =
    let blocks = c.deref-block-items.result.now in
    let i = c.loop-block.block-index in
    let b = c.block-item.result in
    let next : length (joined (take (c.loop-block.block-index + 1) c.deref-block-items.result.now)) ≡ length (joined (take c.loop-block.block-index c.deref-block-items.result.now)) + length c.block-item.result = ap length (joined-next blocks i b c.loop-block-test.true c.block-item.is) ∙ length-append (joined (take i blocks)) b in
    record {
      all = c.in_ok-all.ensures ∙ ap (λ all. all ++ slice_range c.block-item.result c.min-low.result c.min-high.result) c.loop-block.invariant.all
          ∙ stretch-next c.deref-block-items.result.now c.loop-block.block-index c.args.from c.args.to c.loop-block.at c.min-low.result c.min-high.result c.block-item.result (slice_range c.block-item.result c.min-low.result c.min-high.result) c.requires.order c.loop-block-test.true c.block-item.is c.loop-block.invariant.at
          (omega (arith, c.min-low.ensures, c.saturating_sub.ensures, c.len-len.ensures)) (omega (arith, c.min-high.ensures, c.saturating_sub-in-loop-block.ensures, c.len-len.ensures)) refl;
      at = omega (arith, c.loop-block.invariant.at, c.len-len.ensures);
    }
