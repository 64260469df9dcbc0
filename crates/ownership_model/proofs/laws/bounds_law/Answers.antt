use Rattle.ownership_model.proofs.LawsHold.{bounds}
use Rattle.ownership_model.proofs.laws.bounds_law.Goals as goal

pub returns : goal.returns
returns c = bounds
