-- What the places of a state name, as lists from which a graph is laid out (profile of this project).
use Rattle.std.specs.Prelude.{ℕ, ◌≡◌, ◌+◌, ◌<◌, ◌++◌, length, map, take, slice_index}
use Rattle.std.specs.FinMap.{get, keys}
use Rattle.ownership_model.specs.State.{State, is_alive}
use Rattle.retention_model.specs.declared.place.Place.{Place}
use Rattle.retention.specs.declared.named.Named.{Named}
use Rattle.retention.specs.HeldPlaces.{held_among, root_places_of, field_places_of}

-- the objects and places are those of a state in which each place holds its slot since this operation
pub record IsNamedOf (m : State) (since : Place → ℕ) (n : Named) : Type 0 where
  pub objects : n.objects.items ≡ keys m.objects
  pub alive : n.alive.items ≡ map (λ o. is_alive (get m.objects o)) n.objects.items
  pub held : n.held.items ≡ held_among m since (root_places_of m) ++ held_among m since (field_places_of m n.objects.items)
  pub starts : (i : ℕ) → i < length n.objects.items + 1 → slice_index n.starts.items i ≡ length (held_among m since (root_places_of m)) + length (held_among m since (field_places_of m (take i n.objects.items)))
