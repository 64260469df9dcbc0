-- What a walk gives of one object.
use Rattle.std.proofs.Common.{◌≡◌, ℕ, ◌<◌, ◌≤◌, List, [], ◌∷◌, length, get_or, map, reverse, Bool, true}
use Rattle.std.specs.Prelude.{Option, Some}
use Rattle.std.specs.List.{All}
use Rattle.std.proofs.lemmas.List.Elements.{All-cons, All-nil}
use Rattle.retention_model.specs.declared.place.Held.{Held}
use Rattle.retention.specs.declared.graph.Graph.{Graph}
use Rattle.retention.specs.declared.walk.Step.{Step}
use Rattle.retention.specs.Graph.{size, places, holds, held_at, IsFieldAt, is_field_at}
use Rattle.retention.specs.Walked.{LeadsBy, IsToldWay, Keeps, has_come, CameBy, HasWalked, holds_in}
use Rattle.retention.specs.Components.{AreParts}
use Rattle.retention.proofs.GraphPaths.{held_place, in_part_holds, own_least, own_seen}

-- the places of a way are among those of the graph
pub places_within : (g : Graph) (hold : ℕ → Option ℕ) → ((p o : ℕ) → hold p ≡ Some o → p < places g) → (from : ℕ → Bool) (way : List ℕ) (o : ℕ) → LeadsBy hold (IsFieldAt g) from o way → All (λ p. p < places g) way
places_within g hold in_places from [] o l = absurd l
places_within g hold in_places from (p ∷ []) o l = All-cons (λ p. p < places g) p [] (in_places p o l.0) (All-nil (λ p. p < places g))
places_within g hold in_places from (p ∷ q ∷ way) o l = All-cons (λ p. p < places g) p (q ∷ way) (in_places p o l.0) (places_within g hold in_places from (q ∷ way) l.1.0 l.1.2)

-- of an object that a walk over the whole graph came to
module _ (g : Graph) (from : ℕ → Bool) (steps : List Step) (is : HasWalked (holds g) (IsFieldAt g) from (size g) steps) (i : ℕ) (seen : has_come steps i ≡ true) where
  pub came_by : (way : List ℕ) × CameBy (IsFieldAt g) steps i way × All (λ p. p < places g) way
  came_by = (is.way i, is.came i seen, places_within g (holds g) (held_place g) from (is.way i) i (is.least i seen).0)

  pub told_by : (told : List Held) → ((way : List ℕ) → CameBy (IsFieldAt g) steps i way → length way ≤ size g → told ≡ map (held_at g) (reverse way)) → IsToldWay g from i told
  told_by told so = (is.way i, is.least i seen, so (is.way i) (is.came i seen) (is.short i seen))

-- of an object in a cycle, by a walk from its own fields in its component
module _ (g : Graph) (parts : List ℕ) (are : AreParts g parts) (i : ℕ) (inside : i < size g) (cyclic : Keeps g i i) (steps : List Step)
    (is : HasWalked (holds_in g parts (get_or parts i 0)) (IsFieldAt g) (is_field_at g i) (size g) steps) where
  pub own_come : has_come steps i ≡ true
  own_come = is.all i cyclic.0 (own_seen g parts are i inside cyclic.0 cyclic cyclic.1)

  pub own_came_by : (way : List ℕ) × CameBy (IsFieldAt g) steps i way × All (λ p. p < places g) way
  own_came_by = (is.way i, is.came i own_come, places_within g (holds_in g parts (get_or parts i 0)) (λ p o h. held_place g p o (in_part_holds g parts (get_or parts i 0) p o h)) (is_field_at g i) (is.way i) i (is.least i own_come).0)

  pub own_told : (told : List Held) → ((way : List ℕ) → CameBy (IsFieldAt g) steps i way → length way ≤ size g → told ≡ map (held_at g) (reverse way)) → IsToldWay g (is_field_at g i) i told
  own_told told so = (is.way i, own_least g parts are i inside (is.way i) cyclic (is.least i own_come), so (is.way i) (is.came i own_come) (is.short i own_come))
