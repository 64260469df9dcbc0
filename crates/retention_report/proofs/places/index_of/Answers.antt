use Rattle.retention_report.proofs.DrawLemmas.{index_option, option_within}
use Rattle.retention_report.proofs.places.index_of.Goals as goal

pub returns-clause-value : goal.returns-clause-value
returns-clause-value c = index_option c.args.graph.now c.args.object c.index_of.result c.index_of.ensures

pub returns-clause-within : goal.returns-clause-within
returns-clause-within c = option_within c.args.graph.now c.args.object c.index_of.result c.index_of.ensures
