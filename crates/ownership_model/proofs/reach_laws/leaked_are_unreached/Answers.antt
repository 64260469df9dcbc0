use Rattle.ownership_model.proofs.LawsHold.{leaked}
use Rattle.ownership_model.proofs.reach_laws.leaked_are_unreached.Goals as goal

pub returns : goal.returns
returns c = leaked
