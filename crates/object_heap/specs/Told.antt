-- The keys that are told as changes are made and what is then pending is dropped (profile of this project). A caller sees these by
-- `release_keys` and `event_keys`; the others are for private functions.
use Rattle.std.specs.Prelude.{◌≡◌, List, [], ◌∷◌, ◌++◌, map, flat_map, Bool, true}
use Rattle.trace_types.specs.declared.slots.Slot.TheVariants.{Nothing, Strong, Weak, Dangling}
use Rattle.trace_types.specs.declared.slots.Item.{Item}
use Rattle.trace_types.specs.declared.slots.Item.TheVariants as item
use Rattle.trace_types.specs.declared.slots.Change.{Change}
use Rattle.trace_types.specs.declared.outcomes.Event.{Event}
use Rattle.ownership_model.specs.declared.key.Key.{Key}
use Rattle.ownership_model.specs.declared.key.Key.TheVariants.{Object}
use Rattle.ownership_model.specs.Alike.{AreWithin}
use Rattle.ownership_model.specs.State.{State}
use Rattle.ownership_model.specs.Changes.{changed}
use Rattle.ownership_model.specs.Footprint.{item_keys, taken, moved_by_changes}
use Rattle.ownership_model.specs.Touched.{event_object}

-- the objects that slots name that changes move or copy, and those of all items that are then dropped
abbrev pub release_keys : State → List Change → List Item → List Key
release_keys m changes pending = moved_by_changes m changes ++ flat_map item_keys (taken (changed m changes) pending)

-- the objects that events tell of
abbrev pub event_keys : List Event → List Key
event_keys es = map Object (map event_object es)

-- the first item, where it is a strong slot: it is dropped before the others are counted
abbrev pub at_once : List Item → List Item
at_once [] = []
at_once (item.Slot (Strong o) ∷ rest) = item.Slot (Strong o) ∷ []
at_once (item.Slot Nothing ∷ rest) = []
at_once (item.Slot (Weak o) ∷ rest) = []
at_once (item.Slot Dangling ∷ rest) = []
at_once (item.End o ∷ rest) = []

-- the key stands last
abbrev pub IsLast : Key → List Key → Type 0
IsLast x keys = (before : List Key) × (keys ≡ before ++ x ∷ [])

-- the later keys have the object of an item, unless an event has it, and all that was told before
abbrev pub IsItemTold : Item → Bool → List Key → List Key → Type 0
IsItemTold x has_event before later = (k : Key → Bool) → (has_event ≡ true → AreWithin k (item_keys x)) → AreWithin k later → AreWithin k (before ++ item_keys x)
