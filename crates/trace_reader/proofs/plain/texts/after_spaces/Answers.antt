use Rattle.std.proofs.Common.{◌≡◌, ◌-◌, ◌∷◌, length, take, drop, arith}
use Rattle.std.proofs.lemmas.Grind.{common_steps}
use Rattle.trace_reader.proofs.PlainLemmas.{no_spaces, one_space}
use Rattle.trace_reader.proofs.plain.texts.after_spaces.Goals as goal

pub returns-then-rest-lt1 : goal.returns-then-rest-lt1
returns-then-rest-lt1 c =
    let text = c.args.text.now in
    let rest = take (length text - 1) (drop 1 text) in
    let is : text ≡ 32 ∷ rest = grind (arith, common_steps) in
    one_space text text rest (no_spaces text) is

pub returns-else-rest-lt1 : goal.returns-else-rest-lt1
returns-else-rest-lt1 c =
    let text = c.args.text.now in
    let rest = take (length text - 1) (drop 1 text) in
    let is : text ≡ 32 ∷ rest = grind (arith, common_steps) in
    one_space text text rest (no_spaces text) is
