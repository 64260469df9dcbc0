use Rattle.ownership_model.proofs.LawsHold.{in_turn}
use Rattle.ownership_model.proofs.laws.release_in_turn.Goals as goal

pub returns : goal.returns
returns c = in_turn
