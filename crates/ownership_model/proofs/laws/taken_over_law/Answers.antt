use Rattle.ownership_model.proofs.LawsHold.{taken_over}
use Rattle.ownership_model.proofs.laws.taken_over_law.Goals as goal

pub returns : goal.returns
returns c = taken_over
