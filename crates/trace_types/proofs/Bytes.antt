-- One more write, and one more read.
use Rattle.std.proofs.Common.{◌≡◌, ℕ, ◌+◌, ◌-◌, ◌≤◌, List, ◌++◌, length, take, drop, Option, subst, arith}
use Rattle.std.proofs.Math.Seq.{take-add}
use Rattle.std.proofs.lemmas.Grind.{common_steps}
use Rattle.std.specs.Io.KnownBytes.{Appends}
use Rattle.std.proofs.KnownBytes.{Appends-trans}

same_front : (bytes : List ℕ) (at n : ℕ) → at ≤ length bytes → n ≤ length bytes - at → take at bytes ++ take n (take (length bytes - at) (drop at bytes)) ≡ take (at + n) bytes
same_front bytes at n within fits = let e = take-add at n bytes in grind (arith, common_steps, e)

-- written so far, and the n bytes that a write took of the rest
pub written_more : (a b c : Option (List ℕ)) (bytes : List ℕ) (at n : ℕ) → at ≤ length bytes → n ≤ length bytes - at
    → Appends a b (take at bytes) → Appends b c (take n (take (length bytes - at) (drop at bytes))) → Appends a c (take (at + n) bytes)
written_more a b c bytes at n within fits p q = subst (Appends a c) (same_front bytes at n within fits) (Appends-trans a b c _ _ p q)
