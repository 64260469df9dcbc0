use Rattle.std.proofs.Common.{rules}
use Rattle.serde_json.specs.Data.{string}
use Rattle.trace_reader.specs.Plain.{IsDelimited}
use Rattle.trace_reader.proofs.PlainLemmas.{value_of_text}
use Rattle.trace_reader.proofs.plain.scalars.passed_text.Goals as goal

pub returns : goal.returns
returns c =
    let found = c.in_ok-rest in
    let ended : IsDelimited found.rest.now = search rules in
    (string found.field-0-0.now, value_of_text c.args.text.now found.field-0-0.now found.rest.now found.ensures.quoted found.ensures.plain ended)
