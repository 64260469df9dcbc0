use Rattle.ownership_model.proofs.LawsHold.{scopes}
use Rattle.ownership_model.proofs.laws.scopes_law.Goals as goal

pub returns : goal.returns
returns c = scopes
