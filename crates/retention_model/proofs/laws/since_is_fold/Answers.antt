use Rattle.retention_model.proofs.LawsHold.{since_fold}
use Rattle.retention_model.proofs.laws.since_is_fold.Goals as goal

pub returns : goal.returns
returns c = since_fold
