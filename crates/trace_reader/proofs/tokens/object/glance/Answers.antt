use Rattle.std.proofs.Common.{rules, ◌≡◌, ◌∷◌, Some, None, option_map, refl, sym, ap, ◌∙◌, arith}
use Rattle.json.specs.Json.{value, parse_map}
use Rattle.json.specs.Reads.{token_of}
use Rattle.json.proofs.Grammar.{value_is}
use Rattle.serde_json.specs.Data.{null, boolean, number, string, array, object}
use Rattle.serde_json.specs.Read.{number_of, of_json, converted}
use Rattle.trace_reader.specs.Looks.{opens_array, opens_object, first_value}
use Rattle.trace_reader.proofs.Turns.{at_null, at_string, at_boolean, at_number, at_array, at_object, too_deep_array, too_deep_object}
use Rattle.trace_reader.proofs.Endings.{number_found, number_none, natural_look, other_look, number_field}
use Rattle.trace_reader.proofs.tokens.object.glance.Goals as goal

pub returns-in-String-clause-value : goal.returns-in-String-clause-value
returns-in-String-clause-value c =
    let is = ap (λ t. first_value c.args.depth (token_of t ∷ c.args.reader.now)) c.in-String.is in
    (string c.in-String.text.now, is ∙ at_string c.args.depth c.args.reader.now _, search rules, refl, sym (ap (λ t. opens_object (token_of t)) c.in-String.is), sym (ap (λ t. opens_array (token_of t)) c.in-String.is))

pub returns-in-Null-clause-value : goal.returns-in-Null-clause-value
returns-in-Null-clause-value c =
    let is = ap (λ t. first_value c.args.depth (token_of t ∷ c.args.reader.now)) c.in-Null.is in
    (null, is ∙ at_null c.args.depth c.args.reader.now, refl, refl, sym (ap (λ t. opens_object (token_of t)) c.in-Null.is), sym (ap (λ t. opens_array (token_of t)) c.in-Null.is))

pub returns-in-Bool-clause-value : goal.returns-in-Bool-clause-value
returns-in-Bool-clause-value c =
    let is = ap (λ t. first_value c.args.depth (token_of t ∷ c.args.reader.now)) c.in-Bool.is in
    (boolean c.in-Bool.field-0, is ∙ at_boolean c.args.depth c.args.reader.now _, refl, refl, sym (ap (λ t. opens_object (token_of t)) c.in-Bool.is), sym (ap (λ t. opens_array (token_of t)) c.in-Bool.is))

pub returns-in-Some-Some-clause-value : goal.returns-in-Some-Some-clause-value
returns-in-Some-Some-clause-value c =
    let is = ap (λ t. first_value c.args.depth (token_of t ∷ c.args.reader.now)) c.in-Number.is in
    let x = number_found (number_of c.in-Number.text.now) (Some c.in-Some-Some.n) (sym c.in-Some-Some.ensures ∙ ap Some c.in-Some-Some.field-0-is) in
    (number x.0, is ∙ at_number c.args.depth c.args.reader.now _ ∙ ap (λ o. option_map (λ d. (d, c.args.reader.now)) (option_map number o)) x.1, natural_look x.0 c.in-Some-Some.n x.2, number_field x.0, sym (ap (λ t. opens_object (token_of t)) c.in-Number.is), sym (ap (λ t. opens_array (token_of t)) c.in-Number.is))

pub returns-in-Some-None-clause-value : goal.returns-in-Some-None-clause-value
returns-in-Some-None-clause-value c =
    let is = ap (λ t. first_value c.args.depth (token_of t ∷ c.args.reader.now)) c.in-Number.is in
    let x = number_found (number_of c.in-Number.text.now) None (sym c.in-Some-None.ensures ∙ ap Some c.in-Some-None.field-0-is) in
    (number x.0, is ∙ at_number c.args.depth c.args.reader.now _ ∙ ap (λ o. option_map (λ d. (d, c.args.reader.now)) (option_map number o)) x.1, other_look x.0 x.2, number_field x.0, sym (ap (λ t. opens_object (token_of t)) c.in-Number.is), sym (ap (λ t. opens_array (token_of t)) c.in-Number.is))

pub returns-in-None-clause-value : goal.returns-in-None-clause-value
returns-in-None-clause-value c =
    let is = ap (λ t. first_value c.args.depth (token_of t ∷ c.args.reader.now)) c.in-Number.is in
    let none = number_none (number_of c.in-Number.text.now) (sym c.in-None.ensures) in
    is ∙ at_number c.args.depth c.args.reader.now _ ∙ ap (λ o. option_map (λ d. (d, c.args.reader.now)) (option_map number o)) none

pub returns-then-depth-eq0-clause-value : goal.returns-then-depth-eq0-clause-value
returns-then-depth-eq0-clause-value c =
    let is = ap (λ t. first_value c.args.depth (token_of t ∷ c.args.reader.now)) c.in-BeginObject.is in
    is ∙ too_deep_object c.args.depth c.args.reader.now (omega arith)

pub returns-then-pass_members-clause-value : goal.returns-then-pass_members-clause-value
returns-then-pass_members-clause-value c =
    let is = ap (λ t. first_value c.args.depth (token_of t ∷ c.args.reader.now)) c.in-BeginObject.is in
    let found = c.if-pass_members.ensures.value in
    (object found.0, is ∙ at_object c.args.depth c.args.reader.now (omega arith) ∙ ap (parse_map object) found.1, refl, refl, sym (ap (λ t. opens_object (token_of t)) c.in-BeginObject.is), sym (ap (λ t. opens_array (token_of t)) c.in-BeginObject.is))

pub returns-else-pass_members-clause-value : goal.returns-else-pass_members-clause-value
returns-else-pass_members-clause-value c =
    let is = ap (λ t. first_value c.args.depth (token_of t ∷ c.args.reader.now)) c.in-BeginObject.is in
    is ∙ at_object c.args.depth c.args.reader.now (omega arith) ∙ ap (parse_map object) c.if-pass_members.ensures.value

pub returns-then-depth-eq0-2-clause-value : goal.returns-then-depth-eq0-2-clause-value
returns-then-depth-eq0-2-clause-value c =
    let is = ap (λ t. first_value c.args.depth (token_of t ∷ c.args.reader.now)) c.in-BeginArray.is in
    is ∙ too_deep_array c.args.depth c.args.reader.now (omega arith)

pub returns-then-pass_items-clause-value : goal.returns-then-pass_items-clause-value
returns-then-pass_items-clause-value c =
    let is = ap (λ t. first_value c.args.depth (token_of t ∷ c.args.reader.now)) c.in-BeginArray.is in
    let found = c.if-pass_items.ensures.value in
    (array found.0, is ∙ at_array c.args.depth c.args.reader.now (omega arith) ∙ ap (parse_map array) found.1, refl, refl, sym (ap (λ t. opens_object (token_of t)) c.in-BeginArray.is), sym (ap (λ t. opens_array (token_of t)) c.in-BeginArray.is))

pub returns-else-pass_items-clause-value : goal.returns-else-pass_items-clause-value
returns-else-pass_items-clause-value c =
    let is = ap (λ t. first_value c.args.depth (token_of t ∷ c.args.reader.now)) c.in-BeginArray.is in
    is ∙ at_array c.args.depth c.args.reader.now (omega arith) ∙ ap (parse_map array) c.if-pass_items.ensures.value

pub returns-in-EndObject-clause-value : goal.returns-in-EndObject-clause-value
returns-in-EndObject-clause-value c =
    let none : value c.args.depth (token_of c.args.token ∷ c.args.reader.now) ≡ None = rw (value_is c.args.depth (token_of c.args.token ∷ c.args.reader.now)) (grind arith) in
    ap (converted of_json) none
