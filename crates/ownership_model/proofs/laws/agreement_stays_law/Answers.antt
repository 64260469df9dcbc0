use Rattle.ownership_model.proofs.LawsHold.{agreement_stays}
use Rattle.ownership_model.proofs.laws.agreement_stays_law.Goals as goal

pub returns : goal.returns
returns c = agreement_stays
