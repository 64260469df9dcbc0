use Rattle.std.proofs.Common.{◌∙◌, ◌++◌, ◌∷◌, [], ap, length}
use Rattle.std.proofs.Math.Seq.{take-length}
use Rattle.run_engine.specs.Marks.{load_marks}
use Rattle.run_engine.proofs.LoadLemmas.{load-marks, kept-all}
use Rattle.run_engine.proofs.run.Run.load.Goals as goal

pub returns-clause-marks : goal.returns-clause-marks
returns-clause-marks c =
    load-marks c.as_slice.result.now [] c.in_ok-replay.replay.segments (c.in_ok-replay.ensures.prefix.trace ∙ take-length c.as_slice.result.now) c.in_ok-replay.ensures.marks
    ∙ ap (λ ms. ms ++ length c.as_slice.result.now ∷ []) (kept-all (length c.as_slice.result.now))
    ∙ ap (λ ops. load_marks (length ops)) c.as_slice.ensures.value
