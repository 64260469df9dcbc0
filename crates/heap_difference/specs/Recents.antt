-- Handles that were met lately, by 256 numbers (profile of this project).
use Rattle.std.specs.Prelude.{ℕ, ◌+◌, ◌%◌, ◌==◌, List, Bool, get_or}

-- whether a handle is the one at its place: there stands its number and one
abbrev pub is_recent : List ℕ → ℕ → Bool
is_recent places h = get_or places (h % 256) 0 == h + 1
