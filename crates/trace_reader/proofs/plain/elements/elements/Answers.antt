use Rattle.std.proofs.Common.{◌≡◌, ◌-◌, ◌∷◌, ◌++◌, [], length, take, drop, sym, subst, arith}
use Rattle.std.proofs.lemmas.Grind.{common_steps}
use Rattle.trace_reader.specs.Plain.{AreElements}
use Rattle.trace_reader.proofs.PlainLemmas.{IsAfterElements, no_elements_yet, no_elements_at_all, element_and_comma, element_and_bracket}
use Rattle.trace_reader.proofs.plain.elements.elements.Goals as goal

pub elements-init : goal.elements-init
elements-init c = subst (λ xs. IsAfterElements c.args.text.now xs c.after_spaces-rest.result.now) (sym c.new-found.ensures.items) (no_elements_yet c.args.text.now c.after_spaces-rest.result.now c.after_spaces-rest.ensures)

pub returns-in-93 : goal.returns-in-93
returns-in-93 c =
    let rest = c.after_spaces-rest.result.now in
    let after = take (length rest - 1) (drop 1 rest) in
    let is : rest ≡ 93 ∷ after = grind (arith, common_steps) in
    subst (λ xs. AreElements c.args.text.now xs after) (sym c.new-found.ensures.items) (no_elements_at_all c.args.text.now rest after c.after_spaces-rest.ensures is)

pub elements-preserved : goal.elements-preserved
elements-preserved c =
    let l = c.elements in
    let behind = c.after_spaces.result.now in
    let spaced = take (length behind - 1) (drop 1 behind) in
    let comma : behind ≡ 44 ∷ spaced = grind (arith, common_steps) in
    let pushed : c.push.new.self.items ≡ l.found.items ++ c.field.result ∷ [] = grind arith in
    subst (λ xs. IsAfterElements c.args.text.now xs c.after_spaces-rest-in-44.result.now) (sym pushed)
    (element_and_comma c.args.text.now l.rest.now c.in-Some.after.now behind l.found.items c.in-Some.seen l.invariant c.in-Some.ensures c.after_spaces.ensures c.after_spaces-rest-in-44.result.now spaced c.field.result comma c.after_spaces-rest-in-44.ensures c.field.ensures)

pub returns-in-93-after_spaces : goal.returns-in-93-after_spaces
returns-in-93-after_spaces c =
    let l = c.elements in
    let behind = c.after_spaces.result.now in
    let next = take (length behind - 1) (drop 1 behind) in
    let bracket : behind ≡ 93 ∷ next = grind (arith, common_steps) in
    let pushed : c.push.new.self.items ≡ l.found.items ++ c.field.result ∷ [] = grind arith in
    subst (λ xs. AreElements c.args.text.now xs next) (sym pushed)
    (element_and_bracket c.args.text.now l.rest.now c.in-Some.after.now behind l.found.items c.in-Some.seen l.invariant c.in-Some.ensures c.after_spaces.ensures next c.field.result bracket c.field.ensures)
