use Rattle.std.proofs.Common.{◌≡◌, take, subst, arith}
use Rattle.run_engine.proofs.HeadAndTailLemmas.{head-further}
use Rattle.run_engine.proofs.editing.head_and_tail.head.Goals as goal

pub loop-at-preserved : goal.loop-at-preserved
loop-at-preserved c =
    let more = c.alike_from-more.ensures in
    record {
      base = omega (arith, more.base_within);
      within = omega (arith, more.within);
      same = head-further c.args.ops.now.base c.args.ops.now.ops c.loop-at.at c.alike_from-more.result c.loop-at.invariant.same more.same;
    }

pub returns-then-more-eq0 : goal.returns-then-more-eq0
returns-then-more-eq0 c = record {
  old_within = c.loop-at.invariant.base;
  within = c.loop-at.invariant.within;
  same = c.loop-at.invariant.same;
  most = λ n a b same. c.alike_from-more.ensures.none c.if-more-eq0.true n same;
}

pub returns : goal.returns
returns c =
    let whole : c.loop-at.at ≡ c.min-few.result = omega (arith, c.loop-at.invariant.base, c.loop-at.invariant.within) in
    record {
      old_within = omega arith;
      within = omega arith;
      same = subst (λ n. take n c.args.ops.now.base ≡ take n c.args.ops.now.ops) whole c.loop-at.invariant.same;
      most = λ n a b same. omega arith;
    }
