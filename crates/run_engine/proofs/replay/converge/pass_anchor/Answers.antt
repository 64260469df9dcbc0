use Rattle.run_engine.specs.inner.GoesOn.{GoesOnBeside}
use Rattle.run_engine.proofs.GoesOnLemmas.{GoesOn-next}
use Rattle.run_engine.proofs.replay.converge.pass_anchor.Goals as goal

pub returns-clause-beside : goal.returns-clause-beside
returns-clause-beside c =
    let on = c.in_ok-progress-2.ensures.beside c.advance.new.meter in
    let next : GoesOnBeside c.args.revision.now c.in_ok-progress.progress.prefix c.in_ok-progress-2.progress.prefix c.advance.new.shelf c.pass_part.new.shelf c.advance.new.meter c.advance.new.meter =
    record { reached = on.reached; onward = on.onward; stepped = on.stepped } in
    GoesOn-next _ _ _ _ _ _ _ _ _ _ _ _ c.in_ok-progress.ensures.beside next
