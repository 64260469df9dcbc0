use Rattle.retention_model.proofs.LawsHold.{some_loss}
use Rattle.retention_model.proofs.laws.some_slot_was_lost.Goals as goal

pub returns : goal.returns
returns c = some_loss
