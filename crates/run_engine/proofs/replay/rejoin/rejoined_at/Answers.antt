use Rattle.run_engine.proofs.DivergenceLemmas.{stand-there, differ-here, IsDivergence-compared}
use Rattle.run_engine.proofs.replay.rejoin.rejoined_at.Goals as goal

-- the heaps that are compared stand where the divergence has caught up
pub rejoined-requires-clause-known : goal.rejoined-requires-clause-known
rejoined-requires-clause-known c =
    differ-here c.args.revision.now c.catch_up.new.self c.args.progress.now.prefix.end c.args.old.now.mark
    (stand-there c.args.revision.now c.catch_up.new.self c.args.progress.now.prefix.len c.args.old.now.at c.args.progress.now.prefix.segments c.args.progress.now.prefix.end c.args.old.now.mark c.requires.prefix c.requires.mark
    c.in_ok-catch_up.ensures.edited c.in_ok-catch_up.ensures.base)
    c.in_ok-catch_up.ensures.known

pub returns-clause-known : goal.returns-clause-known
returns-clause-known c =
    IsDivergence-compared c.args.revision.now c.catch_up.new.self c.rejoined.new.divergence c.args.progress.now.prefix.end c.args.old.now.mark
    (stand-there c.args.revision.now c.catch_up.new.self c.args.progress.now.prefix.len c.args.old.now.at c.args.progress.now.prefix.segments c.args.progress.now.prefix.end c.args.old.now.mark c.requires.prefix c.requires.mark
    c.in_ok-catch_up.ensures.edited c.in_ok-catch_up.ensures.base)
    c.in_ok-found.ensures.known
