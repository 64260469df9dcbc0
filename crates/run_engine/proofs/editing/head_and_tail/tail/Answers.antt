use Rattle.std.proofs.Common.{◌≡◌, ◌-◌, length, drop, subst, arith}
use Rattle.run_engine.proofs.HeadAndTailLemmas.{tail-none}
use Rattle.run_engine.proofs.editing.head_and_tail.tail.Goals as goal

pub loop-n-init : goal.loop-n-init
loop-n-init c = record { within = omega arith; same = tail-none c.args.ops.now.base c.args.ops.now.ops }

pub loop-n-preserved : goal.loop-n-preserved
loop-n-preserved c = record {
  within = omega arith;
  same = c.alike_before-more.ensures.same _ (omega arith) c.loop-n.invariant.same;
}

pub returns-then-more-eq0 : goal.returns-then-more-eq0
returns-then-more-eq0 c = record {
  old_within = omega (arith, c.loop-n.invariant.within);
  within = omega (arith, c.loop-n.invariant.within);
  same = c.loop-n.invariant.same;
  most = λ k a b same. c.alike_before-more.ensures.none c.if-more-eq0.true k (omega arith) (omega arith) same;
}

pub returns : goal.returns
returns c =
    let whole : c.loop-n.n ≡ c.min-few.result = omega (arith, c.loop-n.invariant.within) in
    record {
      old_within = omega arith;
      within = omega arith;
      same = subst (λ n. drop (length c.args.ops.now.base - n) c.args.ops.now.base ≡ drop (length c.args.ops.now.ops - n) c.args.ops.now.ops) whole c.loop-n.invariant.same;
      most = λ k a b same. omega arith;
    }
