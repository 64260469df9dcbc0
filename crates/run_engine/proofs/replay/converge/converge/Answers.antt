use Rattle.std.proofs.Common.{ap}
use Rattle.ownership_model.specs.State.{nothing_held}
use Rattle.ownership_model.specs.Step.{end_from}
use Rattle.run_engine.proofs.DivergenceLemmas.{IsDivergence-fork}
use Rattle.run_engine.proofs.replay.converge.converge.Goals as goal

pub go_beside-requires-clause-fork : goal.go_beside-requires-clause-fork
go_beside-requires-clause-fork c = ap (end_from nothing_held) c.requires.begins

pub go_beside-requires-clause-known : goal.go_beside-requires-clause-known
go_beside-requires-clause-known c = c.none-difference.ensures c.args.revision.now (ap (end_from nothing_held) c.requires.begins)

pub go_beside-requires-clause-divergence : goal.go_beside-requires-clause-divergence
go_beside-requires-clause-divergence c =
    IsDivergence-fork c.args.revision.now c.none-divergence.result (record { edited = c.args.prefix.len; base = c.args.prefix.len }) c.none-divergence.ensures.within c.none-divergence.ensures.edited c.none-divergence.ensures.base (ap (end_from nothing_held) c.requires.begins)
