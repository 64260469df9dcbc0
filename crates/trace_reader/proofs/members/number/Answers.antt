use Rattle.std.proofs.Common.{◌∙◌, ap}
use Rattle.trace_reader.specs.Looks.{number_text, number_told}
use Rattle.trace_reader.proofs.Asked.{number_at-told}
use Rattle.trace_reader.proofs.members.number.Goals as goal

pub returns-clause-value : goal.returns-clause-value
returns-clause-value c ms tells = c.kept_number.ensures.value ∙ ap (number_told c.args.low c.args.high) (tells.numbers c.args.name) ∙ number_at-told (number_text c.args.name) c.args.low c.args.high ms
