use Rattle.std.proofs.Common.{◌≡◌, ◌^◌, ◌<◌, take}
use Rattle.std.specs.Str.Parse.{AllDigits, digits_value}
use Rattle.trace_reader.proofs.tokens.numbers.digits.Given as goal

-- what was read so far are digits, and the number that they write
abbrev pub invariant-digits : goal.invariant-digits
invariant-digits l = (l.n ≡ digits_value 10 (take l.byte-index l.bytes)) × AllDigits 10 (take l.byte-index l.bytes) × (l.n < 2 ^ 64)
