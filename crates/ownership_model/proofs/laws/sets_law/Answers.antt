use Rattle.ownership_model.proofs.LawsHold.{sets}
use Rattle.ownership_model.proofs.laws.sets_law.Goals as goal

pub returns : goal.returns
returns c = sets
