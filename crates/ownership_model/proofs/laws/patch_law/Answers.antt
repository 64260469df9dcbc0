use Rattle.ownership_model.proofs.LawsHold.{patches}
use Rattle.ownership_model.proofs.laws.patch_law.Goals as goal

pub returns : goal.returns
returns c = patches
