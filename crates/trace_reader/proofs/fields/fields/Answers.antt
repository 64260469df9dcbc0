use Rattle.std.proofs.Common.{◌∙◌, ap, subst}
use Rattle.trace_reader.specs.Members.{Gives}
use Rattle.trace_reader.specs.Looks.{fields_told}
use Rattle.trace_reader.proofs.Asked.{fields_at-told}
use Rattle.trace_reader.proofs.fields.fields.Goals as goal

pub returns-clause-value : goal.returns-clause-value
returns-clause-value c ms tells = subst (Gives c.kept_fields.result) (ap (fields_told c.args.cyclic) tells.fields ∙ fields_at-told c.args.cyclic ms) c.kept_fields.ensures.value
