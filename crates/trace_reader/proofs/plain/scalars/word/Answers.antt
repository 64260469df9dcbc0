use Rattle.std.proofs.Common.{rules, arith, ◌≡◌, ◌-◌, ◌∷◌, length, take, drop, refl}
use Rattle.std.proofs.lemmas.Grind.{common_steps}
use Rattle.trace_reader.specs.Plain.{IsDelimited}
use Rattle.trace_reader.proofs.PlainLemmas.{scalar_null, scalar_me}
use Rattle.trace_reader.proofs.plain.scalars.word.Goals as goal

pub returns-then-is_delimited : goal.returns-then-is_delimited
returns-then-is_delimited c =
    let text = c.args.text.now in
    let rest = take (length text - 4) (drop 4 text) in
    let is : text ≡ 110 ∷ 117 ∷ 108 ∷ 108 ∷ rest = grind (arith, common_steps) in
    let ended : IsDelimited rest = search rules in
    scalar_null text rest is ended

pub returns-then-is_delimited-2 : goal.returns-then-is_delimited-2
returns-then-is_delimited-2 c =
    let text = c.args.text.now in
    let rest = take (length text - 4) (drop 4 text) in
    let is : text ≡ 34 ∷ 109 ∷ 101 ∷ 34 ∷ rest = grind (arith, common_steps) in
    let ended : IsDelimited rest = search rules in
    scalar_me text rest _ is refl ended
