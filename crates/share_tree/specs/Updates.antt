-- A map after a change of what it has at a key.
use Rattle.std.specs.Prelude.{ℕ, Option, Some, None}
use Rattle.std.specs.Ordering.{nat_cmp}
use Rattle.std.specs.FinMap.{FinMap, insert}

-- the map with this value at a key, where there is one
abbrev pub set_at : {V : Type 0} → FinMap nat_cmp V → ℕ → Option V → FinMap nat_cmp V
set_at m k None = m
set_at m k (Some v) = insert m k v
