use Rattle.std.proofs.Common.{◌≡◌, ◌+◌, ◌-◌, ◌≤◌, length, take, drop, refl, ap, ◌∙◌, arith}
use Rattle.run_engine.proofs.GuessLemmas.{listed-more}
use Rattle.run_engine.proofs.replay.guess.are_listed.Goals as goal

pub overflow_add-at : goal.overflow_add-at
overflow_add-at c = omega (arith, c.requires.within, c.requires.trace.few, c.loop-i-test.true)

pub loop-i-preserved : goal.loop-i-preserved
loop-i-preserved c =
    let least = c.min-few.ensures in
    let some : c.min-few.result ≤ length c.from-next.result.now = omega arith in
    let left : c.min-few.result ≤ length c.args.others.now - c.loop-i.i = omega arith in
    let part : c.loop-i.i + c.min-few.result - c.loop-i.i ≡ c.min-few.result = omega arith in
    let next : take c.min-few.result c.from-next.result.now ≡ take c.min-few.result (drop c.loop-i.i c.args.others.now) =
    c.if-not-same_ops.ensures.0 refl ∙ ap (λ n. take n (drop c.loop-i.i c.args.others.now)) part in
    record {
      within = omega (arith, left, c.loop-i.invariant.within);
      same = listed-more c.args.others.now c.args.ops.now.ops c.from-next.result.now c.args.at c.loop-i.i c.min-few.result c.loop-i.invariant.same c.from-next.ensures.ops some next;
    }
