use Rattle.std.proofs.Common.{Ok, sym, ap, ◌∙◌}
use Rattle.trace_reader.specs.Looks.{op_told, text_told, named_by}
use Rattle.trace_reader.proofs.PlainLemmas.{named_back}
use Rattle.trace_reader.proofs.members.kept_name.Goals as goal

pub returns-in-Named : goal.returns-in-Named
returns-in-Named c = ap Ok (sym (named_back c.in-Named.name)) ∙ ap (λ o. named_by (text_told (op_told o))) (sym c.in-Named.is)
