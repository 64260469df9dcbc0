use Rattle.std.proofs.Common.{◌≡◌, ◌-◌, ◌∷◌, length, take, drop, arith}
use Rattle.std.proofs.lemmas.Grind.{common_steps}
use Rattle.trace_reader.proofs.PlainLemmas.{no_spaces, one_space}
use Rattle.trace_reader.proofs.plain.texts.after_many_spaces.Goals as goal

pub spaces-init : goal.spaces-init
spaces-init c = no_spaces c.args.text.now

pub spaces-preserved : goal.spaces-preserved
spaces-preserved c =
    let rest = c.spaces.rest.now in
    let next = take (length rest - 1) (drop 1 rest) in
    let is : rest ≡ 32 ∷ next = grind (arith, common_steps) in
    one_space c.args.text.now rest next c.spaces.invariant is
