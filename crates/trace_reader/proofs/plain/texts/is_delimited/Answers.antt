use Rattle.std.proofs.Common.{◌≡◌, ◌-◌, ◌∷◌, length, take, drop, arith}
use Rattle.std.proofs.lemmas.Grind.{common_steps}
use Rattle.trace_reader.proofs.PlainLemmas.{delimited_by, delimited_later}
use Rattle.trace_reader.proofs.plain.texts.is_delimited.Goals as goal

pub returns-in-44 : goal.returns-in-44
returns-in-44 c ended = delimited_by c.args.text.now c.in-len1-up.len_at_least c.in-44.is

pub returns-in-32 : goal.returns-in-32
returns-in-32 c ended =
    let text = c.args.text.now in
    let after = take (length text - 1) (drop 1 text) in
    let is : text ≡ 32 ∷ after = grind (arith, common_steps) in
    delimited_later text after is (c.closes.ensures ended)
