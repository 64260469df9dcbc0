use Rattle.std.proofs.Common.{◌≡◌, ◌-◌, ◌∷◌, length, take, drop, IfSome, sym, subst, arith}
use Rattle.std.proofs.lemmas.Grind.{common_steps}
use Rattle.serde_json.specs.Data.{Data}
use Rattle.trace_reader.specs.Plain.{IsValue}
use Rattle.trace_reader.proofs.plain.scalars.passed.Goals as goal

pub returns-in-34 : goal.returns-in-34
returns-in-34 c =
    let text = c.args.text.now in
    let inside = take (length text - 1) (drop 1 text) in
    let is : text ≡ 34 ∷ inside = grind (arith, common_steps) in
    subst (λ t. IfSome c.passed_text.result (λ rest. (d : Data) × IsValue t d rest.now)) (sym is) c.passed_text.ensures
