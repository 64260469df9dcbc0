use Rattle.std.proofs.Common.{ap, ◌∙◌}
use Rattle.ownership_model.specs.State.{nothing_held}
use Rattle.ownership_model.specs.Step.{outcomes_from}
use Rattle.run_engine.specs.RunView.{RunView}
use Rattle.run_engine.proofs.SegmentLemmas.{outcomes_in-replay}
use Rattle.run_engine.proofs.run.Run.stretches.Goals as goal

pub returns-clause-outcomes : goal.returns-clause-outcomes
returns-clause-outcomes c =
    c.in_ok-stretches.ensures.outcomes
    ∙ outcomes_in-replay nothing_held c.self.inside.segments c.self.invariant.run.replay
    ∙ ap (λ (s : RunView). outcomes_from nothing_held s.trace) c.self.view_is
