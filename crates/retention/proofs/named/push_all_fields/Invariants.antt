use Rattle.std.proofs.Common.{◌≡◌, ◌≤◌, ◌<◌, ◌+◌, ◌++◌, ℕ, length, take, get_or}
use Rattle.ownership_model.specs.State.{State}
use Rattle.retention_model.specs.declared.place.Place.{Place}
use Rattle.retention.specs.Dates.{Tell}
use Rattle.retention.specs.HeldPlaces.{held_among, field_places_of}
use Rattle.retention.proofs.named.push_all_fields.Given as goal

abbrev pub invariant-loop-object : goal.invariant-loop-object
invariant-loop-object l = record {
  long : length l.starts.items ≡ l.object-index;
  held : (m : State) (since : Place → ℕ) → Tell l.dates m since → l.held.items ≡ l.initial.held.items ++ held_among m since (field_places_of m (take l.object-index l.objects));
  rising : (i : ℕ) → i < l.object-index → (i + 1 < l.object-index → get_or l.starts.items i 0 ≤ get_or l.starts.items (i + 1) 0) × (get_or l.starts.items i 0 ≤ length l.held.items);
  each : (m : State) (since : Place → ℕ) → Tell l.dates m since → (i : ℕ) → i < l.object-index
      → get_or l.starts.items i 0 ≡ length l.initial.held.items + length (held_among m since (field_places_of m (take i l.objects)));
}
