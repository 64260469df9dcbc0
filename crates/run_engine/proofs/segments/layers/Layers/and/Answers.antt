use Rattle.std.proofs.Common.{◌<◌, ◌++◌, [], ◌∷◌, arith, ap, take, length, sym, ◌∙◌}
use Rattle.std.proofs.Math.Seq.{take-length}
use Rattle.run_engine.proofs.LayeredLemmas.{to-place}
use Rattle.run_engine.proofs.segments.layers.Layers.and.Goals as goal

pub loop-i-preserved : goal.loop-i-preserved
loop-i-preserved c =
    let lt : c.loop-i.i < length c.args.self.now = omega (arith, c.loop-i-test.true, c.len-len.ensures, ap length c.self.view_is) in
    c.in_ok-push.ensures.items ∙ ap (λ o. c.loop-i.items.items ++ o ∷ []) c.in_ok-share.ensures ∙ ap (λ os. os ++ c.index.result.now ∷ []) c.loop-i.invariant
    ∙ sym (to-place c.args.self.now c.loop-i.i c.index.result.now lt (rw c.self.view_is at c.index.ensures))

pub returns : goal.returns
returns c =
    c.in_ok-push-2.ensures.items ∙ ap (λ os. os ++ c.in_ok-share-2.field-0 ∷ [])
    (c.loop-i.invariant ∙ ap (λ n. take n c.args.self.now) (omega (arith, c.loop-i-test.false, c.loop-i.auto.i-end, c.len-len.ensures, ap length c.self.view_is)) ∙ take-length c.args.self.now)
    ∙ ap (λ o. c.args.self.now ++ o ∷ []) c.in_ok-share-2.ensures
