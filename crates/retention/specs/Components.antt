-- Which objects of a graph lead to each other: its strongly connected components (graph theory).
use Rattle.std.specs.Prelude.{ℕ, ◌≡◌, ◌<◌, ◌≤◌, ◌==◌, ◌↔◌, ◌⊎◌, ◌&&◌, List, length, filter, Bool, true, false, slice_index, slice_index_or, count_by}
use Rattle.retention.specs.declared.graph.Graph.{Graph}
use Rattle.retention.specs.declared.cycles.Cycles.{Cycles}
use Rattle.retention.specs.Layout.{upto}
use Rattle.retention.specs.Graph.{size}
use Rattle.retention.specs.Walked.{Keeps}

-- both are the same object, or each leads to the other
abbrev pub AreTogether : Graph → ℕ → ℕ → Type 0
AreTogether g i j = (i ≡ j) ⊎ (Keeps g i j × Keeps g j i)

-- each object has the least object of its component
pub record AreParts (g : Graph) (parts : List ℕ) : Type 0 where
  pub long : length parts ≡ size g
  pub least : (i : ℕ) → i < size g → (slice_index parts i ≤ i) × AreTogether g i (slice_index parts i)
  pub same : (i j : ℕ) → i < size g → j < size g → slice_index parts i ≡ slice_index parts j → AreTogether g i j
  pub all : (i j : ℕ) → i < size g → j < size g → AreTogether g i j → slice_index parts i ≡ slice_index parts j

-- a leaked object that leads to itself
abbrev pub IsCyclic : Graph → List Bool → ℕ → Type 0
IsCyclic g leaked i = (slice_index_or leaked i false ≡ true) × Keeps g i i

-- how many objects have this part
abbrev pub size_of : List ℕ → ℕ → ℕ
size_of parts i = count_by (λ part. part == i) parts

-- whether a marked object is the least of its component
abbrev pub is_least_of : List ℕ → List Bool → ℕ → Bool
is_least_of parts marks i = slice_index_or marks i false && (slice_index parts i == i)

-- the cycles of the leaked objects
pub record AreCycles (g : Graph) (leaked : List Bool) (c : Cycles) : Type 0 where
  pub parts : AreParts g c.parts.items
  pub sizes : (i : ℕ) → i < size g → slice_index c.sizes.items i ≡ size_of c.parts.items i
  pub sizes_long : length c.sizes.items ≡ size g
  pub marks : length c.marks.items ≡ size g
  pub marked : (i : ℕ) → i < size g → (slice_index_or c.marks.items i false ≡ true) ↔ IsCyclic g leaked i
  pub least : c.least.items ≡ filter (is_least_of c.parts.items c.marks.items) (upto (size g))
