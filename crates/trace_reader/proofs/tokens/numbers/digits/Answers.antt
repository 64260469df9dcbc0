use Rattle.std.proofs.Common.{◌≡◌, ◌<◌, ◌^◌, ◌-◌, length, get_or, Some, sym, ap, subst, ◌∙◌, arith, take_all}
use Rattle.std.specs.Char.{digit_value}
use Rattle.std.specs.Str.Parse.{AllDigits, digits_value}
use Rattle.std.proofs.lemmas.Bool.Decides.{nat_tests}
use Rattle.std.proofs.lemmas.Int.Digits.{digits_more, digits_value_more}
use Rattle.serde_json.specs.Data.{unsigned}
use Rattle.trace_reader.proofs.Numbers.{number_of-digits}
use Rattle.trace_reader.proofs.tokens.numbers.digits.Goals as goal

pub digits-preserved : goal.digits-preserved
digits-preserved c =
    let s = c.args.bytes.now in
    let i = c.digits.byte-index in
    let inside : i < length s = c.digits-test.true in
    let digit : digit_value (get_or s i 0) ≡ get_or s i 0 - 48 = grind (arith, nat_tests) in
    let small : digit_value (get_or s i 0) < 10 = grind (arith, nat_tests) in (
      omega (arith, digits_value_more 10 s i inside, c.digits.invariant.0, digit),
      digits_more 10 s i inside c.digits.invariant.1 small,
      omega (arith, digit, small, c.if-n.false),
    )

pub returns : goal.returns
returns c =
    let s = c.args.bytes.now in
    let all = take_all c.digits.byte-index s (omega (arith, c.digits-test.false)) in
    let value : c.digits.n ≡ digits_value 10 s = c.digits.invariant.0 ∙ ap (digits_value 10) all in
    let numeral : AllDigits 10 s = subst (AllDigits 10) all c.digits.invariant.1 in
    let some : 0 < length s = grind (arith, nat_tests) in
    let fits : digits_value 10 s < 2 ^ 64 = omega (arith, value, c.digits.invariant.2) in
    number_of-digits s (some, numeral) fits ∙ ap (λ n. Some (unsigned n)) (sym value)
