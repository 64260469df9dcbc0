use Rattle.retention_model.proofs.LawsHold.{ways}
use Rattle.retention_model.proofs.laws.reached_by_ways.Goals as goal

pub returns : goal.returns
returns c = ways
