use Rattle.retention_model.proofs.LawsHold.{others}
use Rattle.retention_model.proofs.laws.others_stay.Goals as goal

pub returns : goal.returns
returns c = others
