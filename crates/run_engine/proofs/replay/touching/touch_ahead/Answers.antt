use Rattle.std.proofs.Common.{◌≡◌, ◌-◌, ◌%◌, sym, subst, arith}
use Rattle.std.specs.Ordering.{nat_cmp}
use Rattle.std.specs.BTreeSet.{contains}
use Rattle.run_engine.specs.GivenUp.{names_at}
use Rattle.run_engine.specs.inner.Onward.{cuts, AreAnswered}
use Rattle.run_engine.proofs.OnwardLemmas.{cuts-none, AreAnswered-none, AreAnswered-cut}
use Rattle.run_engine.proofs.replay.touching.touch_ahead.Goals as goal

pub loop-at-init : goal.loop-at-init
loop-at-init c = record {
  behind = omega arith;
  before = c.requires.order;
  aligned = λ lt. omega arith;
  answered = subst (λ ps. AreAnswered c.args.shelf.now c.args.shelf.now (names_at c.args.ops.now.ops ps) (contains nat_cmp c.args.answered.now) (contains nat_cmp c.args.answered.now)) (sym (cuts-none c.args.from)) (AreAnswered-none c.args.shelf.now (contains nat_cmp c.args.answered.now));
}

pub loop-at-preserved : goal.loop-at-preserved
loop-at-preserved c =
    let h = c.loop-at.invariant in
    let z : (c.loop-at.at - c.args.from) % 64 ≡ 0 = h.aligned c.loop-at-test.true in
    record {
      behind = omega (arith, h.behind);
      before = omega (arith, c.loop-at-test.true);
      aligned = λ lt. omega (arith, z, h.behind);
      answered = AreAnswered-cut _ c.args.from c.loop-at.at _ _ _ _ _ _ _ h.behind z (omega (arith, c.loop-at-test.true)) (omega arith) h.answered c.in_ok-touch_at.ensures.answered;
    }

pub returns : goal.returns
returns c =
    let h = c.loop-at.invariant in
    let there : c.loop-at.at ≡ c.args.to = omega (arith, h.before, c.loop-at-test.false) in
    record { answered = subst (λ to. AreAnswered c.args.shelf.now c.loop-at.shelf (names_at c.args.ops.now.ops (cuts c.args.from to)) (contains nat_cmp c.args.answered.now) (contains nat_cmp c.loop-at.answered)) there h.answered }
