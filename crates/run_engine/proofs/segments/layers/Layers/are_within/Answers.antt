use Rattle.std.proofs.Common.{◌<◌, arith, ap, take, length, sym, subst, ◌∙◌}
use Rattle.std.proofs.Math.Seq.{take-length}
use Rattle.run_engine.specs.inner.Layered.{AreWithin}
use Rattle.run_engine.proofs.LayeredLemmas.{to-place, within-more}
use Rattle.run_engine.proofs.segments.layers.Layers.are_within.Goals as goal

pub loop-i-preserved : goal.loop-i-preserved
loop-i-preserved c =
    let lt : c.loop-i.i < length c.args.self.now = omega (arith, c.loop-i-test.true, c.len-i-end.ensures, ap length c.self.view_is) in
    let next = to-place c.args.self.now c.loop-i.i c.index.result.now lt (rw c.self.view_is at c.index.ensures) in
    subst (λ os. AreWithin os c.args.layer.now) (sym next) (within-more (take c.loop-i.i c.args.self.now) c.index.result.now c.args.layer.now c.loop-i.invariant (c.is_within.ensures c.if-not-is_within.false))

pub returns : goal.returns
returns c = λ _.
    let all = ap (λ n. take n c.args.self.now) (omega (arith, c.loop-i-test.false, c.len-i-end.ensures, c.loop-i.auto.i-end, ap length c.self.view_is)) ∙ take-length c.args.self.now in
    subst (λ os. AreWithin os c.args.layer.now) all c.loop-i.invariant
