-- What a picture of a graph shows, by the numbers of its objects (profile of this project).
use Rattle.std.specs.Prelude.{ℕ, ◌≡◌, ◌<◌, ◌⊎◌, List, [], ◌∷◌, Bool, true, false}
use Rattle.trace_types.specs.declared.slots.Slot.{Slot}
use Rattle.trace_types.specs.declared.slots.Slot.TheVariants.{Nothing, Strong, Weak, Dangling}
use Rattle.ownership_model.specs.Reach.{has}
use Rattle.retention.specs.declared.graph.Graph.{Graph}
use Rattle.retention.specs.Graph.{size, alive_at, held_at, target_at, IsFieldAt}
use Rattle.retention.specs.Walked.{Keeps}
use Rattle.retention.specs.Paths.{marked}

-- those given, or where none is, all that leaked and all husks
abbrev pub IsAskedAt : Graph → List Bool → List ℕ → ℕ → Type 0
IsAskedAt g leaked [] i = (i < size g) × ((marked leaked i ≡ true) ⊎ (alive_at g i ≡ false))
IsAskedAt g leaked (x ∷ xs) i = has i (x ∷ xs) ≡ true

abbrev pub is_weak_slot : Slot → Bool
is_weak_slot Nothing = false
is_weak_slot (Strong o) = false
is_weak_slot (Weak o) = true
is_weak_slot Dangling = false

-- a Weak in a field of i names j
abbrev pub HoldsWeaklyAt : Graph → ℕ → ℕ → Type 0
HoldsWeaklyAt g i j = (p : ℕ) × IsFieldAt g i p × (target_at g p ≡ j) × (is_weak_slot (held_at g p).slot ≡ true)

-- asked for, or with a Weak to what is asked for
abbrev pub IsNearAt : Graph → (ℕ → Type 0) → ℕ → Type 0
IsNearAt g Asked i = Asked i ⊎ ((j : ℕ) × Asked j × HoldsWeaklyAt g i j)

-- shown are these, and each object from a field of which a way leads to one of them
abbrev pub IsShownAt : Graph → (ℕ → Type 0) → ℕ → Type 0
IsShownAt g Asked i = IsNearAt g Asked i ⊎ ((j : ℕ) × IsNearAt g Asked j × Keeps g i j)

-- the objects of a list are those that are marked
abbrev pub AreTheMarked : List ℕ → List Bool → Type 0
AreTheMarked list marks = (i : ℕ) → marked marks i ≡ has i list
