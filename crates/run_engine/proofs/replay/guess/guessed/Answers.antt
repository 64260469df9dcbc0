use Rattle.std.proofs.Common.{refl, sym}
use Rattle.run_engine.proofs.GuessLemmas.{guess-there}
use Rattle.run_engine.proofs.replay.guess.guessed.Goals as goal

pub returns-then-serves-clause-there : goal.returns-then-serves-clause-there
returns-then-serves-clause-there c =
    guess-there c.args.revision.now.guesses.now c.loop-guess.guess-index c.guess-item.result c.args.heap.now c.args.revision.now.ops.now.ops c.args.at c.args.to c.in_ok-piece.piece.len
    c.loop-guess-test.true c.guess-item.is (record { start_is = c.if-serves.ensures.start refl; some = c.if-serves.ensures.some refl; short = c.if-serves.ensures.short refl; ops_are = c.if-serves.ensures.listed refl }) c.in_ok-piece.ensures.whole

pub returns-then-serves-clause-gap : goal.returns-then-serves-clause-gap
returns-then-serves-clause-gap c = (c.guess-item.result, (c.loop-guess.guess-index, c.loop-guess-test.true, sym c.guess-item.is), sym c.in_ok-piece.ensures.whole)

pub returns-then-serves-clause-next : goal.returns-then-serves-clause-next
returns-then-serves-clause-next c = λ chunks. record { start_is = tt; end_is = tt; kept = tt }
