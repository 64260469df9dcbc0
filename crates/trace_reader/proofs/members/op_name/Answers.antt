use Rattle.std.proofs.Common.{◌∙◌, ap}
use Rattle.std.specs.Prelude.{codes}
use Rattle.trace_reader.specs.Looks.{text_told, named_by}
use Rattle.trace_reader.proofs.Asked.{text_at-told}
use Rattle.trace_reader.proofs.members.op_name.Goals as goal

pub returns : goal.returns
returns c ms tells = c.kept_name.ensures ∙ ap named_by (ap text_told tells.op ∙ text_at-told (codes "op") ms)
