-- What a call adds to a text.
use Rattle.std.specs.Prelude.{◌≡◌, ◌++◌, ℕ, List, String, string_bytes}

-- the new text is the old one with this piece behind it
abbrev pub Adds : {Z : Type 0} → String Z → String Z → List ℕ → Type 0
Adds old new piece = string_bytes new ≡ string_bytes old ++ piece
