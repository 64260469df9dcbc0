use Rattle.std.proofs.Common.{◌≡◌, [], ◌∷◌, Some, false, sym, ap, ◌∙◌, arith}
use Rattle.json.specs.Token.{Token}
use Rattle.json.specs.Json.{parse_map}
use Rattle.json.specs.Reads.{token_of}
use Rattle.serde_json.specs.Data.{array}
use Rattle.trace_reader.specs.Looks.{is_array, first_value}
use Rattle.trace_reader.proofs.Turns.{at_end, at_array, too_deep_array}
use Rattle.trace_reader.proofs.Tables.{no_elements}
use Rattle.trace_reader.proofs.tokens.object.fields.Goals as goal

pub returns-in_default-clause-err : goal.returns-in_default-clause-err
returns-in_default-clause-err c refused =
    let empty : c.args.reader.now ≡ [] = grind arith in
    ap (first_value c.args.depth) empty ∙ at_end c.args.depth

pub returns-then-depth-eq0-clause-err : goal.returns-then-depth-eq0-clause-err
returns-then-depth-eq0-clause-err c refused =
    let first : c.args.reader.now ≡ token_of c.in-Some.token ∷ c.next.new.self = grind arith in
    let is : c.args.reader.now ≡ Token.begin_array ∷ c.next.new.self = first ∙ ap (λ t. token_of t ∷ c.next.new.self) c.in-BeginArray.is in
    ap (first_value c.args.depth) is ∙ too_deep_array c.args.depth c.next.new.self (omega arith)

pub returns-in_err-elements-clause-err : goal.returns-in_err-elements-clause-err
returns-in_err-elements-clause-err c refused =
    let first : c.args.reader.now ≡ token_of c.in-Some.token ∷ c.next.new.self = grind arith in
    let is : c.args.reader.now ≡ Token.begin_array ∷ c.next.new.self = first ∙ ap (λ t. token_of t ∷ c.next.new.self) c.in-BeginArray.is in
    ap (first_value c.args.depth) is ∙ at_array c.args.depth c.next.new.self (omega arith) ∙ ap (parse_map array) (c.elements.ensures.err (grind arith))

pub returns-in-BeginArray-clause-ok : goal.returns-in-BeginArray-clause-ok
returns-in-BeginArray-clause-ok c =
    let first : c.args.reader.now ≡ token_of c.in-Some.token ∷ c.next.new.self = grind arith in
    let is : c.args.reader.now ≡ Token.begin_array ∷ c.next.new.self = first ∙ ap (λ t. token_of t ∷ c.next.new.self) c.in-BeginArray.is in
    let found = c.in_ok-elements.ensures.ok in
    (array found.0, ap (first_value c.args.depth) is ∙ at_array c.args.depth c.next.new.self (omega arith) ∙ ap (parse_map array) found.1, ap (λ rs. Some (Some rs)) (sym found.2))

pub returns-in-Some-glance-clause-ok : goal.returns-in-Some-glance-clause-ok
returns-in-Some-glance-clause-ok c =
    let first : c.args.reader.now ≡ token_of c.in-Some.token ∷ c.next.new.self = grind arith in
    let found = c.in-Some-glance.ensures.value in
    let none : is_array found.0 ≡ false = grind arith in
    (found.0, ap (first_value c.args.depth) first ∙ found.1, ap Some (sym (no_elements found.0 none)))
