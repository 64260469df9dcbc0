-- Where an operation may have changed what stands: the places that its changes set, and the fields of the objects of which its events
-- tell (profile of this project). All others are as before it, so that a replay need not look at them.
use Rattle.std.specs.Prelude.{ℕ, ◌==◌, ◌||◌, List, Bool, true, false}
use Rattle.std.specs.List.{list_any}
use Rattle.trace_types.specs.declared.slots.Change.{Change}
use Rattle.trace_types.specs.declared.slots.Change.TheVariants.{SetHandle, EndHandle, SetCell, EndCell, SetField, Make, TurnHusk}
use Rattle.trace_types.specs.declared.outcomes.Event.{Event}
use Rattle.ownership_model.specs.declared.plan.Plan.{Plan}
use Rattle.ownership_model.specs.declared.plan.Plan.TheVariants.{Skip, Act}
use Rattle.ownership_model.specs.Touched.{event_object}
use Rattle.retention_model.specs.declared.place.Place.{Place}
use Rattle.retention_model.specs.declared.place.Place.TheVariants.{Handle, Cell, Field}

-- whether the place is one of the handle
abbrev pub is_of_handle : ℕ → Place → Bool
is_of_handle h (Handle g i) = h == g
is_of_handle h (Cell c) = false
is_of_handle h (Field o i) = false

-- whether it is the cell
abbrev pub is_cell : ℕ → Place → Bool
is_cell c (Handle h i) = false
is_cell c (Cell d) = c == d
is_cell c (Field o i) = false

-- whether it is a field of the object
abbrev pub is_of_object : ℕ → Place → Bool
is_of_object o (Handle h i) = false
is_of_object o (Cell c) = false
is_of_object o (Field p i) = o == p

-- whether the change may set the place
abbrev pub sets : Place → Change → Bool
sets p (SetHandle t h held) = is_of_handle h p
sets p (EndHandle h) = is_of_handle h p
sets p (SetCell c s) = is_cell c p
sets p (EndCell c) = is_cell c p
sets p (SetField o i s) = is_of_object o p
sets p (Make o fields) = is_of_object o p
sets p (TurnHusk o) = is_of_object o p

-- whether the event tells of the object of which the place is a field
abbrev pub tells : Place → Event → Bool
tells p e = is_of_object (event_object e) p

-- whether a change of the plan sets it
abbrev pub is_set : Place → Plan → Bool
is_set p (Skip reason) = false
is_set p (Act answer changes event pending object) = list_any (sets p) changes

-- whether it is looked at, where these are the events of the operation
abbrev pub is_looked_at : Place → Plan → List Event → Bool
is_looked_at p plan events = is_set p plan || list_any (tells p) events
