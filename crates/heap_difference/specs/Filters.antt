-- Sets of keys as bits, one for many keys (profile of this project).
use Rattle.std.specs.Prelude.{ℕ, ◌≡◌, ◌==◌, ◌+◌, ◌/◌, ◌%◌, List, Bool, true, slice_index_or}
use Rattle.std.specs.Int.{bit_at}
use Rattle.ownership_model.specs.declared.key.Key.{Key}
use Rattle.ownership_model.specs.declared.key.Key.TheVariants.{Handle, Cell, Object, Scope}
use Rattle.ownership_model.specs.Alike.{AreWithin}

-- the class of a key, one of 2,048: half of them are of objects, the others of handles, which cells and labels share
abbrev pub class_of : Key → ℕ
class_of (Handle h) = h % 1024
class_of (Object o) = 1024 + o % 1024
class_of (Cell c) = 512 + c % 512
class_of (Scope t) = t % 512

-- the bit of a class, in words of 64
abbrev pub class_bit : List ℕ → ℕ → ℕ
class_bit words class = bit_at (slice_index_or words (class / 64) 0) (class % 64)

-- whether the bit of a key's class is set: so it is for each key that was put in, and for others of its class
abbrev pub may_have : List ℕ → Key → Bool
may_have words x = class_bit words (class_of x) == 1

-- the bits that were set stay, and those of these keys are set
pub record HasPutIn (old new : List ℕ) (keys : List Key) : Type 0 where
  pub stays : (x : Key) → may_have old x ≡ true → may_have new x ≡ true
  pub has : AreWithin (may_have new) keys

-- the bits of all these keys are set
abbrev pub HasKeys : List ℕ → List Key → Type 0
HasKeys words keys = AreWithin (may_have words) keys
