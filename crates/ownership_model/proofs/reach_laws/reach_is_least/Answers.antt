use Rattle.ownership_model.proofs.LawsHold.{reach}
use Rattle.ownership_model.proofs.reach_laws.reach_is_least.Goals as goal

pub returns : goal.returns
returns c = reach
