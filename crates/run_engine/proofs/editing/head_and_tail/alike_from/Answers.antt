use Rattle.std.proofs.Common.{◌≡◌, true, false}
use Rattle.run_engine.proofs.HeadAndTailLemmas.{alike-here, head-ends, one-alike}
use Rattle.run_engine.proofs.editing.head_and_tail.alike_from.Goals as goal

pub returns-then-alike-clause-same : goal.returns-then-alike-clause-same
returns-then-alike-clause-same c =
    alike-here c.args.ops.now.base c.args.ops.now.ops c.args.at c.in-Some.alike.from c.in-Some.alike.at c.in-Some.alike.len c.in-Some.ensures c.if-alike.true

pub returns-then-same-clause-same : goal.returns-then-same-clause-same
returns-then-same-clause-same c =
    one-alike c.args.ops.now.base c.args.ops.now.ops c.args.at c.base_at-mine.result.now c.at-other.result.now c.requires.base c.requires.ops c.base_at-mine.ensures c.at-other.ensures (c.same.ensures.0 c.if-same.true)

pub returns-else-same-clause-none : goal.returns-else-same-clause-none
returns-else-same-clause-none c z n same =
    head-ends c.args.ops.now.base c.args.ops.now.ops c.args.at c.base_at-mine.result.now c.at-other.result.now c.requires.base c.requires.ops c.base_at-mine.ensures c.at-other.ensures
    (λ e. let t : c.same.result ≡ true = c.same.ensures.1 e in let f : c.same.result ≡ false = c.if-same.false in cc) n same
