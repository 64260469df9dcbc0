use Rattle.run_engine.specs.Segments.{trace_of}
use Rattle.run_engine.specs.inner.OldRun.{reusable}
use Rattle.run_engine.proofs.GoesOnLemmas.{GoesOn-next}
use Rattle.run_engine.proofs.replay.converge.advance.Goals as goal

pub returns-clause-beside : goal.returns-clause-beside
returns-clause-beside c =
    GoesOn-next _ _ _ _ _ _ _ _ _ _ _ _ c.in_ok-progress.ensures.beside (c.in_ok-prefix.ensures.goes_on (trace_of c.args.revision.now.segments.now) (reusable c.args.revision.now))
