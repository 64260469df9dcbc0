use Rattle.ownership_model.proofs.LawsHold.{blind}
use Rattle.ownership_model.proofs.laws.blind_law.Goals as goal

pub returns : goal.returns
returns c = blind
