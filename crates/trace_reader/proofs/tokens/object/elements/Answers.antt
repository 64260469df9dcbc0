use Rattle.std.proofs.Common.{◌≡◌, ◌-◌, ◌<◌, [], ◌∷◌, ◌++◌, length, true, Some, None, sym, ap, ◌∙◌, arith}
use Rattle.json.specs.Json.{value, parse_map, after_end_array}
use Rattle.json.proofs.Grammar.{after_end_array-shorter}
use Rattle.serde_json.specs.Data.{no_items, item}
use Rattle.trace_reader.specs.Members.{field_of}
use Rattle.trace_reader.specs.Looks.{elements_of, first_value}
use Rattle.trace_reader.proofs.Turns.{item_refused, item_read, items_over}
use Rattle.trace_reader.proofs.Endings.{mapped_before, nothing_before, one_element, no_element}
use Rattle.trace_reader.proofs.tokens.object.elements.Goals as goal

pub items-init : goal.items-init
items-init c = (length c.args.reader.now, omega arith, (λ ds. ds), nothing_before _, (λ ds. ap (λ l. l ++ elements_of ds) (sym c.new-found.ensures.items)), omega arith)

pub returns-in_default-clause-err : goal.returns-in_default-clause-err
returns-in_default-clause-err c refused =
    let l = c.items in
    let going : (after_end_array l.reader ≡ None) × (c.take_end_array.new.self ≡ l.reader) = grind arith in
    let none : first_value c.args.depth c.take_end_array.new.self ≡ None = grind arith in
    l.invariant.3 ∙ ap (parse_map l.invariant.2) (item_refused (value c.args.depth) l.invariant.0 l.reader going.0 (rw (← going.1) none))

pub items-preserved : goal.items-preserved
items-preserved c =
    let l = c.items in
    let going : (after_end_array l.reader ≡ None) × (c.take_end_array.new.self ≡ l.reader) = grind arith in
    let read = c.in-Some.ensures.value in
    let r = c.element.new.reader in
    let shorter : length r < length c.take_end_array.new.self = grind arith in
    let less : length r < length l.reader = rw (← going.1) shorter in
    let pushed : c.push.new.self.items ≡ l.found.items ++ c.in-Some.element ∷ [] = grind arith in
    let turn = item_read (value c.args.depth) l.invariant.0 l.reader r read.0 (omega (arith, less, l.invariant.1)) going.0 (rw (← going.1) read.1) in (
      l.invariant.0 - 1,
      omega (arith, less, l.invariant.1),
      (λ ds. l.invariant.2 (item read.0 ds)),
      l.invariant.3 ∙ ap (parse_map l.invariant.2) turn ∙ mapped_before l.invariant.2 (item read.0) _,
      (λ ds. l.invariant.4 (item read.0 ds) ∙ one_element l.found.items (elements_of ds) (field_of true read.0) c.in-Some.element read.2 ∙ ap (λ xs. xs ++ elements_of ds) (sym pushed)),
      omega (arith, less, l.invariant.5),
    )

pub returns-clause-ok : goal.returns-clause-ok
returns-clause-ok c =
    let l = c.items in
    let over : after_end_array l.reader ≡ Some c.take_end_array.new.self = grind arith in
    let less = after_end_array-shorter l.reader c.take_end_array.new.self over in (
      l.invariant.2 no_items,
      l.invariant.3 ∙ ap (parse_map l.invariant.2) (items_over (value c.args.depth) l.invariant.0 l.reader c.take_end_array.new.self (omega (arith, less, l.invariant.1)) over),
      l.invariant.4 no_items ∙ no_element l.found.items,
    )
