use Rattle.ownership_model.proofs.LawsHold.{places}
use Rattle.ownership_model.proofs.laws.places_law.Goals as goal

pub returns : goal.returns
returns c = places
