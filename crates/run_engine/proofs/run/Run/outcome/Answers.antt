use Rattle.std.proofs.Common.{ap, ◌∙◌}
use Rattle.std.specs.Prelude.{slice_get}
use Rattle.ownership_model.specs.State.{nothing_held}
use Rattle.ownership_model.specs.Step.{outcomes_from}
use Rattle.run_engine.specs.RunView.{RunView}
use Rattle.run_engine.proofs.SegmentLemmas.{outcomes_in-replay}
use Rattle.run_engine.proofs.run.Run.outcome.Goals as goal

pub returns : goal.returns
returns c =
    c.outcome_at.ensures
    ∙ ap (λ os. slice_get os c.args.place) (outcomes_in-replay nothing_held c.self.inside.segments c.self.invariant.run.replay)
    ∙ ap (λ (s : RunView). slice_get (outcomes_from nothing_held s.trace) c.args.place) c.self.view_is
