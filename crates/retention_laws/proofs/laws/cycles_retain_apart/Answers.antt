use Rattle.retention_laws.proofs.ApartLemmas.{retain_apart}
use Rattle.retention_laws.proofs.laws.cycles_retain_apart.Goals as goal

pub returns : goal.returns
returns c = retain_apart
