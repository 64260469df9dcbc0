use Rattle.std.proofs.Common.{◌∙◌, ap, sym, drop}
use Rattle.run_engine.proofs.ConvergeLemmas.{new-unused}
use Rattle.run_engine.proofs.replay.converge.come_to.Goals as goal

pub rejoined_at-requires-clause-unused : goal.rejoined_at-requires-clause-unused
rejoined_at-requires-clause-unused c =
    new-unused c.args.revision.now.ops.now.ops c.in_ok-progress.progress.prefix.len c.in_ok-progress.progress.prefix.segments (drop c.args.old.now.index c.args.revision.now.segments.now) c.in_ok-progress.progress.prefix.end c.in_ok-progress.ensures.beside.reached c.args.revision.now.holds.trace.distinct
    (c.requires.shared ∙ ap (λ n. drop n c.args.revision.now.ops.now.ops) (sym c.in_ok-progress.ensures.there))
