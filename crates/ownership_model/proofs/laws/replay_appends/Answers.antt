use Rattle.ownership_model.proofs.LawsHold.{appends}
use Rattle.ownership_model.proofs.laws.replay_appends.Goals as goal

pub returns : goal.returns
returns c = appends
