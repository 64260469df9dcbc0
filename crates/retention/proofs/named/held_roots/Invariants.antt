use Rattle.std.proofs.Common.{◌≡◌, ◌++◌, [], ◌∷◌, ℕ, take}
use Rattle.std.specs.Prelude.{flat_map}
use Rattle.std.specs.FinMap.{get, keys}
use Rattle.retention_model.specs.declared.place.Place.{Place}
use Rattle.retention_model.specs.declared.place.Place.TheVariants.{Cell}
use Rattle.retention_model.specs.Places.{handle_places}
use Rattle.retention.specs.Dates.{Tell}
use Rattle.retention.specs.HeldPlaces.{held_among}
use Rattle.retention.proofs.named.held_roots.Given as goal

abbrev pub invariant-loop-handle : goal.invariant-loop-handle
invariant-loop-handle l = (since : Place → ℕ) → Tell l.dates l.heap since → l.held.items ≡ held_among l.heap since (flat_map (λ h. handle_places h (get l.heap.handles h)) (take l.handle-index (keys l.heap.handles)))

abbrev pub invariant-loop-cell : goal.invariant-loop-cell
invariant-loop-cell l = (since : Place → ℕ) → Tell l.dates l.heap since
    → l.held.items ≡ held_among l.heap since (flat_map (λ h. handle_places h (get l.heap.handles h)) (keys l.heap.handles) ++ flat_map (λ c. Cell c ∷ []) (take l.cell-index (keys l.heap.cells)))
