use Rattle.std.proofs.Common.{rules, ◌≡◌, ◌-◌, ◌∷◌, length, take, drop, true, false, arith}
use Rattle.std.proofs.lemmas.Grind.{common_steps}
use Rattle.serde_json.specs.Data.{boolean}
use Rattle.trace_reader.specs.Plain.{IsDelimited}
use Rattle.trace_reader.proofs.PlainLemmas.{value_of_truth}
use Rattle.trace_reader.proofs.plain.scalars.truth_value.Goals as goal

pub returns-then-is_delimited : goal.returns-then-is_delimited
returns-then-is_delimited c =
    let text = c.args.text.now in
    let rest = take (length text - 5) (drop 5 text) in
    let is : text ≡ 102 ∷ 97 ∷ 108 ∷ 115 ∷ 101 ∷ rest = grind (arith, common_steps) in
    let ended : IsDelimited rest = search rules in
    (boolean false, value_of_truth text rest false is ended)

pub returns-then-is_delimited-2 : goal.returns-then-is_delimited-2
returns-then-is_delimited-2 c =
    let text = c.args.text.now in
    let rest = take (length text - 4) (drop 4 text) in
    let is : text ≡ 116 ∷ 114 ∷ 117 ∷ 101 ∷ rest = grind (arith, common_steps) in
    let ended : IsDelimited rest = search rules in
    (boolean true, value_of_truth text rest true is ended)
