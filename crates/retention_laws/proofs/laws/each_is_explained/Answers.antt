use Rattle.retention_laws.proofs.ExplainedLemmas.{each_explained}
use Rattle.retention_laws.proofs.laws.each_is_explained.Goals as goal

pub returns : goal.returns
returns c = each_explained
