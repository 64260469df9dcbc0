use Rattle.std.proofs.Common.{◌≡◌, ◌-◌, [], ◌∷◌, length, take, drop, refl, sym, ◌∙◌, arith}
use Rattle.std.proofs.lemmas.Grind.{common_steps}
use Rattle.trace_reader.proofs.PlainLemmas.{no_spaces, end_tokens, end_utf8}
use Rattle.trace_reader.proofs.plain.line.is_end.Goals as goal

pub returns-in-125-clause-tokens : goal.returns-in-125-clause-tokens
returns-in-125-clause-tokens c ended =
    let text = c.args.text.now in
    let is : text ≡ 125 ∷ [] = grind (arith, common_steps) in
    end_tokens text text [] (no_spaces text) is refl

pub returns-in-125-clause-utf8 : goal.returns-in-125-clause-utf8
returns-in-125-clause-utf8 c ended =
    let text = c.args.text.now in
    let is : text ≡ 125 ∷ [] = grind (arith, common_steps) in
    end_utf8 text text [] (no_spaces text) is refl

pub returns : goal.returns
returns c =
    let text = c.args.text.now in
    let rest = c.after_spaces.result.now in
    let behind = take (length rest - 1) (drop 1 rest) in
    let is : rest ≡ 125 ∷ behind = grind (arith, common_steps) in
    record {
      tokens = λ ended. end_tokens text rest behind c.after_spaces.ensures is (sym c.is_blank.ensures ∙ ended);
      utf8 = λ ended. end_utf8 text rest behind c.after_spaces.ensures is (sym c.is_blank.ensures ∙ ended);
    }
