use Rattle.std.proofs.Common.{rules, arith, ◌≡◌, ◌++◌, ◌∷◌}
use Rattle.std.proofs.lemmas.Grind.{common_steps}
use Rattle.trace_types.specs.Names.{name_text}
use Rattle.trace_reader.specs.Plain.{IsDelimited}
use Rattle.trace_reader.proofs.PlainLemmas.{value_of_op}
use Rattle.trace_reader.proofs.plain.scalars.op.Goals as goal

pub returns : goal.returns
returns c =
    let text = c.args.text.now in
    let rest = c.in_ok-name.rest.now in
    let is : text ≡ 34 ∷ name_text c.in_ok-name.name ++ 34 ∷ rest = grind (arith, common_steps) in
    let ended : IsDelimited rest = search rules in
    value_of_op text rest c.in_ok-name.name is ended
