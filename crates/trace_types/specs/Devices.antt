-- What a source gives and a sink takes (std::io::Read and Write; the flag is a profile of this project).
use Rattle.std.specs.Prelude.{◌≡◌, ℕ, List, take, Bool, ◌||◌, Option, IfSome, Result, is_err}
use Rattle.std.specs.Io.KnownBytes.{Appends}

-- the flag is raised where the call failed, and else stays
abbrev pub Raises : {A E : Type 0} → Bool → Bool → Result A E → Type 0
Raises old new result = new ≡ (is_err result || old)

-- what the source has left is this, where it is told
abbrev pub IsInput : Option (List ℕ) → List ℕ → Type 0
IsInput left input = IfSome left (λ xs. input ≡ xs)

-- a front of the text was written
abbrev pub AppendsFront : Option (List ℕ) → Option (List ℕ) → List ℕ → Type 0
AppendsFront old new text = (k : ℕ) × Appends old new (take k text)
