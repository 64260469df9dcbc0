use Rattle.std.proofs.Common.{◌≡◌, ℕ, ◌<◌, length, get_or}
use Rattle.trace_types.specs.declared.slots.Slot.TheVariants.{Nothing}
use Rattle.retention_model.specs.declared.place.Place.TheVariants.{Cell}
use Rattle.retention.specs.Targets.{IsTarget}
use Rattle.retention.proofs.layout.targets_of.Given as goal

abbrev pub invariant-loop-one : goal.invariant-loop-one
invariant-loop-one l = (length l.targets.items ≡ l.one-index) × ((p : ℕ) → p < l.one-index → IsTarget l.objects (get_or l.held p (record { place = Cell 0; slot = Nothing; since = 0 })).slot (get_or l.targets.items p 0))
