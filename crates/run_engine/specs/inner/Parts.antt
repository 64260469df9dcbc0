-- Operations that stand in parts; and, in general, lists of anything in parts.
use Rattle.std.specs.Prelude.{ℕ, ◌+◌, ◌<◌, ◌≤◌, List, [], ◌∷◌, length, take}
use Rattle.std.specs.List.{flat_map}
use Rattle.trace_types.specs.Operation.{Operation}

-- the numbers of the operations are within these bounds
abbrev pub AreBetween : ℕ → ℕ → List Operation → Type 0
AreBetween least greatest [] = Unit {0}
AreBetween least greatest (op ∷ ops) = (least ≤ op.id) × (op.id ≤ greatest) × AreBetween least greatest ops

-- what all parts have
abbrev pub joined : {X : Type 0} → List (List X) → List X
joined parts = flat_map (λ part. part) parts

-- where the parts begin, the first of them at `at`
abbrev pub starts_from : {X : Type 0} → ℕ → List (List X) → List ℕ
starts_from at [] = []
starts_from at (part ∷ parts) = at ∷ starts_from (at + length part) parts

-- the part at i begins at or before a place, and has it, where it isn't behind all parts
pub record IsPartAt {X : Type 0} (parts : List (List X)) (place i : ℕ) : Type 0 where
  pub within : i < length parts
  pub before : length (joined (take i parts)) ≤ place
  pub inside : place < length (joined parts) → place < length (joined (take (i + 1) parts))
