use Rattle.ownership_model.proofs.LawsHold.{named}
use Rattle.ownership_model.proofs.reach_laws.named_are_reached.Goals as goal

pub returns : goal.returns
returns c = named
