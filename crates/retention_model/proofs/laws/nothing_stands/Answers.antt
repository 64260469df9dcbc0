use Rattle.retention_model.proofs.LawsHold.{nothing}
use Rattle.retention_model.proofs.laws.nothing_stands.Goals as goal

pub returns : goal.returns
returns c = nothing
