use Rattle.std.proofs.Common.{◌≡◌, ◌-◌, ◌^◌, ◌<◌, ◌≤◌, length, take}
use Rattle.std.specs.Str.Parse.{AllDigits, digits_value}
use Rattle.trace_reader.proofs.plain.numbers.digits.Given as goal

-- what was read so far are digits, and the number that they write
abbrev pub invariant-digits : goal.invariant-digits
invariant-digits l = (l.n ≡ digits_value 10 (take l.len l.text)) × AllDigits 10 (take l.len l.text) × (l.n < 2 ^ 64) × (l.len ≤ length l.text)

abbrev pub decreases-digits : goal.decreases-digits
decreases-digits l = length l.text - l.len
