use Rattle.ownership_model.proofs.LawsHold.{touched}
use Rattle.ownership_model.proofs.laws.touched_law.Goals as goal

pub returns : goal.returns
returns c = touched
