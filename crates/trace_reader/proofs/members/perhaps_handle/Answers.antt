use Rattle.std.proofs.Common.{◌∙◌, ap}
use Rattle.trace_reader.specs.Looks.{number_text, perhaps_told}
use Rattle.trace_reader.proofs.Asked.{perhaps_at-told}
use Rattle.trace_reader.proofs.members.perhaps_handle.Goals as goal

pub returns-clause-value : goal.returns-clause-value
returns-clause-value c ms tells = c.kept_perhaps.ensures.value ∙ ap perhaps_told (tells.numbers c.args.name) ∙ perhaps_at-told (number_text c.args.name) ms
