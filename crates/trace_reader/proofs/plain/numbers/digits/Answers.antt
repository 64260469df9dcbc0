use Rattle.std.proofs.Common.{◌≡◌, ◌<◌, ◌-◌, length, get_or, arith}
use Rattle.std.specs.Char.{digit_value}
use Rattle.std.proofs.lemmas.Bool.Decides.{nat_tests}
use Rattle.std.proofs.lemmas.Int.Digits.{digits_more, digits_value_more}
use Rattle.trace_reader.proofs.plain.numbers.digits.Goals as goal

pub digits-preserved : goal.digits-preserved
digits-preserved c =
    let s = c.args.text.now in
    let i = c.digits.len in
    let inside : i < length s = c.digits-test.true in
    let digit : digit_value (get_or s i 0) ≡ get_or s i 0 - 48 = grind (arith, nat_tests) in
    let small : digit_value (get_or s i 0) < 10 = grind (arith, nat_tests) in (
      omega (arith, digits_value_more 10 s i inside, c.digits.invariant.0, digit),
      digits_more 10 s i inside c.digits.invariant.1 small,
      omega (arith, digit, small, c.if-n.false),
      omega (arith, inside),
    )
