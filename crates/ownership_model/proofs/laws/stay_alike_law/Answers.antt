use Rattle.ownership_model.proofs.LawsHold.{parts_stay}
use Rattle.ownership_model.proofs.laws.stay_alike_law.Goals as goal

pub returns : goal.returns
returns c = parts_stay
