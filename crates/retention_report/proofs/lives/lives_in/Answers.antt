use Rattle.std.proofs.Common.{◌∙◌}
use Rattle.ownership_model.specs.State.{nothing_held}
use Rattle.ownership_model.specs.Step.{outcomes_from}
use Rattle.retention_report.proofs.RisingLemmas.{lived}
use Rattle.retention_report.proofs.lives.lives_in.Goals as goal

pub returns : goal.returns
returns c = λ ops has. c.in_ok-lives.ensures ∙ lived (outcomes_from nothing_held ops) _ _ (c.deref.ensures.value ∙ has.made) (c.deref-2.ensures.value ∙ has.events)
