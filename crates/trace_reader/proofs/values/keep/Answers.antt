use Rattle.serde_json.specs.View.{view}
use Rattle.trace_reader.proofs.Tables.{Tells-other}
use Rattle.trace_reader.proofs.values.keep.Goals as goal

pub returns-in-None : goal.returns-in-None
returns-in-None c ms tells = Tells-other (view c.args.value.now) ms c.args.kept.now c.args.text.now c.in-None.ensures tells
