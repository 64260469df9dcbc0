use Rattle.std.proofs.Common.{◌≡◌, ◌-◌, ◌∷◌, length, take, drop, arith}
use Rattle.std.proofs.lemmas.Grind.{common_steps}
use Rattle.trace_reader.proofs.PlainLemmas.{key_unescaped}
use Rattle.trace_reader.proofs.plain.names.other_key.Goals as goal

pub returns : goal.returns
returns c =
    let word = c.in_ok-word.word.now in
    let after = c.in_ok-word.after.now in
    let rest = take (length after - 1) (drop 1 after) in
    let joint : after ≡ 58 ∷ rest = grind (arith, common_steps) in
    (word, c.written_name.ensures, key_unescaped c.args.text.now word after rest c.in_ok-word.ensures.quoted joint c.in_ok-word.ensures.plain)
