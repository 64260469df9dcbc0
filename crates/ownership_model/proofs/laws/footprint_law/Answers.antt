use Rattle.ownership_model.proofs.LawsHold.{footprints}
use Rattle.ownership_model.proofs.laws.footprint_law.Goals as goal

pub returns : goal.returns
returns c = footprints
