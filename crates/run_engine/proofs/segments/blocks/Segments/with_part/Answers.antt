use Rattle.std.proofs.Common.{◌≡◌, ◌-◌, ◌++◌, ◌∙◌, ap, sym, arith, take, drop}
use Rattle.std.proofs.lemmas.List.{append-nil}
use Rattle.run_engine.proofs.segments.blocks.Segments.with_part.Goals as goal

pub returns-then-from-to : goal.returns-then-from-to
returns-then-from-to c =
    let none : c.args.to - c.args.from ≡ 0 = omega (arith, c.if-from-to.true) in
    sym (ap (λ n. c.args.self ++ take n (drop c.args.from c.args.block.now)) none ∙ append-nil c.args.self)
