-- What two traces have in common at their heads and tails.
use Rattle.std.specs.Prelude.{ℕ, ◌-◌, ◌+◌, ◌≡◌, ◌<◌, ◌≤◌, List, length, take, drop}
use Rattle.trace_types.specs.Operation.{Operation}

-- the two have the same operations from a and from b on
pub record ShareEnd (old new : List Operation) (a b : ℕ) : Type 0 where
  pub old_within : a ≤ length old
  pub within : b ≤ length new
  pub same : drop a old ≡ drop b new

-- the length of the longest common prefix
pub record IsHead (old new : List Operation) (head : ℕ) : Type 0 where
  pub old_within : head ≤ length old
  pub within : head ≤ length new
  pub same : take head old ≡ take head new
  pub most : (n : ℕ) → n ≤ length old → n ≤ length new → take n old ≡ take n new → n ≤ head

-- the length of the longest common suffix of what stands after the head
pub record IsTail (old new : List Operation) (head tail : ℕ) : Type 0 where
  pub old_within : head + tail ≤ length old
  pub within : head + tail ≤ length new
  pub same : drop (length old - tail) old ≡ drop (length new - tail) new
  pub most : (n : ℕ) → head + n ≤ length old → head + n ≤ length new → drop (length old - n) old ≡ drop (length new - n) new → n ≤ tail

-- the head and the tail of two traces
pub record AreShared (old new : List Operation) (head tail : ℕ) : Type 0 where
  pub head_is : IsHead old new head
  pub tail_is : IsTail old new head tail

-- the operations around a place are those of the base, where they stand from `from` on, and here from `at` on
pub record AreAlike (base ops : List Operation) (place from at len : ℕ) : Type 0 where
  pub here : at ≤ place
  pub before : place < at + len
  pub base_within : from + len ≤ length base
  pub within : at + len ≤ length ops
  pub same : take len (drop from base) ≡ take len (drop at ops)
