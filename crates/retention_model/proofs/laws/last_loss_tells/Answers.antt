use Rattle.retention_model.proofs.LawsHold.{last_loss}
use Rattle.retention_model.proofs.laws.last_loss_tells.Goals as goal

pub returns : goal.returns
returns c = last_loss
