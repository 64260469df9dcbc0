use Rattle.std.proofs.Common.{arith}
use Rattle.run_engine.proofs.SpanLemmas.{total-next}
use Rattle.run_engine.proofs.editing.spans.find.Goals as goal

pub returns-then-rest-len : goal.returns-then-rest-len
returns-then-rest-len c =
    let next = total-next c.args.spans.now c.loop-i.i c.index-spans-i.result c.loop-i-test.true c.index-spans-i.is in
    record { within = omega arith; place_is = c.loop-i.invariant; inside = λ lt. omega (arith, next, c.len.ensures, c.loop-i.invariant) }

pub loop-i-preserved : goal.loop-i-preserved
loop-i-preserved c =
    let next = total-next c.args.spans.now c.loop-i.i c.index-spans-i.result c.loop-i-test.true c.index-spans-i.is in
    omega (arith, next, c.len.ensures, c.len-rest.ensures, c.loop-i.invariant)
