use Rattle.std.proofs.Common.{arith}
use Rattle.std.specs.Prelude.{not, ◌&&◌}
use Rattle.retention.specs.Graph.{alive_at}
use Rattle.retention.specs.Walked.{has_come}
use Rattle.retention.proofs.AccountLemmas.{bools_more}
use Rattle.retention.proofs.ending.leaked_in.Goals as goal

pub is_leaked-requires : goal.is_leaked-requires
is_leaked-requires c = record {
  there = omega (arith, c.loop-index-test.true, c.len-count.ensures);
  within = omega (arith, c.loop-index-test.true, c.len-count.ensures, c.requires);
}

pub loop-index-preserved : goal.loop-index-preserved
loop-index-preserved c =
    let more = bools_more (λ i. alive_at c.args.graph.now i && not (has_come c.args.reached.now.steps.items i)) c.loop-index.leaked.items c.push.new.self.items c.is_leaked.result c.loop-index.index
    c.loop-index.invariant.long c.loop-index.invariant.each c.in_ok-push.ensures.items c.is_leaked.ensures in
    record { long = more.0; each = more.1 }

pub returns : goal.returns
returns c = record {
  long = omega (arith, c.loop-index.invariant.long, c.loop-index-test.false, c.loop-index.auto.index-end, c.len-count.ensures);
  each = λ i less. c.loop-index.invariant.each i (omega (arith, less, c.loop-index-test.false, c.len-count.ensures));
}
