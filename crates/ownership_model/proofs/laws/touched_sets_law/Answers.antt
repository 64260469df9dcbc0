use Rattle.ownership_model.proofs.LawsHold.{touched_sets}
use Rattle.ownership_model.proofs.laws.touched_sets_law.Goals as goal

pub returns : goal.returns
returns c = touched_sets
