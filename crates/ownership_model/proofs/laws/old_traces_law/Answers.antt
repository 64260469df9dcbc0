use Rattle.ownership_model.proofs.LawsHold.{old_traces}
use Rattle.ownership_model.proofs.laws.old_traces_law.Goals as goal

pub returns : goal.returns
returns c = old_traces
