use Rattle.ownership_model.proofs.LawsHold.{near}
use Rattle.ownership_model.proofs.laws.near_law.Goals as goal

pub returns : goal.returns
returns c = near
