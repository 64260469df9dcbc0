use Rattle.retention_model.proofs.LawsHold.{retained}
use Rattle.retention_model.proofs.laws.retained_falls.Goals as goal

pub returns : goal.returns
returns c = retained
