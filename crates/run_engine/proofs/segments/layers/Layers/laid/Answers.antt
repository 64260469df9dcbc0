use Rattle.std.proofs.Common.{◌+◌, ◌<◌, arith, ap, drop, length, sym, subst, ◌∙◌}
use Rattle.run_engine.specs.inner.Layered.{with_all, AreLaid}
use Rattle.run_engine.proofs.LayeredLemmas.{from-place}
use Rattle.run_engine.proofs.segments.layers.Layers.laid.Goals as goal

pub laid-requires : goal.laid-requires
laid-requires c =
    let lt : c.loop-i.i < length c.args.self.now = omega (arith, c.loop-i-test.true, c.len-i-end.ensures, ap length c.self.view_is) in
    let next = from-place c.args.self.now c.loop-i.i c.index.result.now lt (rw c.self.view_is at c.index.ensures) in
    (subst (λ os. AreLaid os c.loop-i.laid) next c.loop-i.invariant.may).0

pub loop-i-preserved : goal.loop-i-preserved
loop-i-preserved c =
    let lt : c.loop-i.i < length c.args.self.now = omega (arith, c.loop-i-test.true, c.len-i-end.ensures, ap length c.self.view_is) in
    let next = from-place c.args.self.now c.loop-i.i c.index.result.now lt (rw c.self.view_is at c.index.ensures) in
    let may = subst (λ os. AreLaid os c.loop-i.laid) next c.loop-i.invariant.may in
    let rest = drop (c.loop-i.i + 1) c.args.self.now in
    record {
      whole = ap (with_all rest) c.in_ok-laid.ensures ∙ sym (ap (λ os. with_all os c.loop-i.laid) next) ∙ c.loop-i.invariant.whole;
      may = subst (AreLaid rest) (sym c.in_ok-laid.ensures) may.1;
    }
