use Rattle.std.proofs.Common.{◌≡◌, ◌-◌, length, drop, true, false, arith}
use Rattle.run_engine.proofs.HeadAndTailLemmas.{alike-back, tail-ends, tail-more, none-or-one}
use Rattle.run_engine.proofs.editing.head_and_tail.alike_before.Goals as goal

pub returns-then-alike-before-clause-same : goal.returns-then-alike-before-clause-same
returns-then-alike-before-clause-same c k le same =
    alike-back c.args.ops.now.base c.args.ops.now.ops (c.len.result - 1 - c.args.n) c.in-Some.alike.from c.in-Some.alike.at c.in-Some.alike.len c.args.n k c.in-Some.ensures (omega (arith, c.len.ensures)) c.requires.ops c.requires.base (omega (arith, c.base_len.ensures)) le same

pub returns-then-same-clause-same : goal.returns-then-same-clause-same
returns-then-same-clause-same c k le same =
    none-or-one (λ m. drop (length c.args.ops.now.base - m) c.args.ops.now.base ≡ drop (length c.args.ops.now.ops - m) c.args.ops.now.ops) c.args.n k le same
    (tail-more c.args.ops.now.base c.args.ops.now.ops c.args.n c.base_at-mine.result.now c.at-other.result.now c.requires.base c.requires.ops (rw c.base_len.ensures at c.base_at-mine.ensures) (rw c.len.ensures at c.at-other.ensures) (c.same.ensures.0 c.if-same.true) same)

pub returns-else-same-clause-none : goal.returns-else-same-clause-none
returns-else-same-clause-none c z k a b same =
    tail-ends c.args.ops.now.base c.args.ops.now.ops c.args.n c.base_at-mine.result.now c.at-other.result.now c.requires.base c.requires.ops (rw c.base_len.ensures at c.base_at-mine.ensures) (rw c.len.ensures at c.at-other.ensures)
    (λ e. let t : c.same.result ≡ true = c.same.ensures.1 e in let f : c.same.result ≡ false = c.if-same.false in cc) k a b same
