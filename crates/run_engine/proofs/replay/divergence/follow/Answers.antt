use Rattle.std.proofs.Common.{arith}
use Rattle.run_engine.proofs.DivergenceLemmas.{HasFollowed-none, HasFollowed-next}
use Rattle.run_engine.proofs.replay.divergence.follow.Goals as goal

pub loop-i-init : goal.loop-i-init
loop-i-init c =
    HasFollowed-none c.args.segments.now c.last_from-first.result.0 c.last_from-first.result.1 c.args.from c.args.suspects.now
    c.last_from-first.ensures.last.place c.if-at-from.false

pub loop-i-preserved : goal.loop-i-preserved
loop-i-preserved c =
    rw (c.in_ok-add.ensures, c.outcomes.ensures)
    (HasFollowed-next c.args.segments.now c.args.from c.loop-i.i c.at.result c.args.suspects.now c.loop-i.suspects
    c.requires.replay (omega (arith, c.loop-i-test.true, c.requires.within)) c.at.ensures c.loop-i.invariant)
