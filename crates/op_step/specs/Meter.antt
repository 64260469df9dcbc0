-- How many operations were carried out.
use Rattle.std.specs.Prelude.{ℕ, ◌+◌, ◌-◌, min}

-- the count after so many operations more; it stays at 2^64 - 1
abbrev pub raised : ℕ → ℕ → ℕ
raised count more = count + min more (18446744073709551615 - count)
