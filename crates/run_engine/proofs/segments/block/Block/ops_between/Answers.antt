use Rattle.std.proofs.Common.{◌-◌, ◌∙◌, ap, length, arith, take, drop}
use Rattle.run_engine.specs.Segments.{trace_of}
use Rattle.run_engine.proofs.StretchLemmas.{stretch-few}
use Rattle.run_engine.proofs.MeasureLemmas.{same-trace, same-part}
use Rattle.run_engine.proofs.segments.block.Block.ops_between.Goals as goal

pub len_of-requires : goal.len_of-requires
len_of-requires c =
    let n = c.args.to - c.args.from in
    let same = same-trace (take n (drop c.args.from c.stored.result.now)) (take n (drop c.args.from c.args.self.now)) (same-part c.stored.result.now c.args.self.now n c.args.from c.stored.ensures) in
    let fewer = stretch-few c.args.self.now c.args.from (c.args.to - c.args.from) in
    omega (arith, ap length same, fewer, c.self.invariant.3.few, c.self.invariant.3.ops_are, ap (λ ss. length (trace_of ss)) c.self.view_is)

pub returns : goal.returns
returns c =
    let n = c.args.to - c.args.from in
    c.len_of.ensures ∙ ap length (same-trace (take n (drop c.args.from c.stored.result.now)) (take n (drop c.args.from c.args.self.now)) (same-part c.stored.result.now c.args.self.now n c.args.from c.stored.ensures))
