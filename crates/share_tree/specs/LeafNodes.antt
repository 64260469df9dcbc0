-- What a node over leaves has at each of its sixteen places.
use Rattle.std.specs.Prelude.{◌≡◌, ℕ, ◌<◌, ◌⊎◌, Option, Some, List, length, map, slice_index_or, count_by, nat_eq, ◌+◌}
use Rattle.std.specs.Arc.{arc_value}
use Rattle.std.specs.declared.sync.Arc.{Arc}
use Rattle.share_tree.specs.declared.leaf.Leaf.{Leaf}
use Rattle.share_tree.specs.Digits.{child_of}

-- the values of leaves
abbrev pub values_of : {V Z : Type 0} → List (Arc (Leaf V) Z) → List (Option V)
values_of {V} leaves = map (λ l. Some (arc_value {X = Leaf V} l).value) leaves

-- the value of each place, by where it stands among the values
abbrev pub places_of : {V : Type 0} → List ℕ → List (Option V) → List (Option V)
places_of order values = map (child_of values) order

-- each of sixteen places has one of n leaves, or 255 and none; no two have one leaf, and no leaf is without a place
pub record IsOrder (order : List ℕ) (n : ℕ) : Type 0 where
  pub long : length order ≡ 16
  pub each : (p : ℕ) → p < 16 → (slice_index_or order p 255 < n) ⊎ (slice_index_or order p 255 ≡ 255)
  pub once : (p q : ℕ) → p < 16 → q < 16 → slice_index_or order p 255 < n → slice_index_or order p 255 ≡ slice_index_or order q 255 → p ≡ q
  pub full : count_by (λ k. nat_eq k 255) order + n ≡ 16
