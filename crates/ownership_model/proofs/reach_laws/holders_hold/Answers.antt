use Rattle.ownership_model.proofs.LawsHold.{holders}
use Rattle.ownership_model.proofs.reach_laws.holders_hold.Goals as goal

pub returns : goal.returns
returns c = holders
