-- The keys that are told as operations are carried out (profile of this project). A caller sees these by `step_keys` and `replay_keys`; the
-- others are for private functions.
use Rattle.std.specs.Prelude.{List, [], ◌∷◌, ◌++◌, map, flat_map, option_to_list}
use Rattle.trace_types.specs.declared.slots.Change.{Change}
use Rattle.trace_types.specs.declared.slots.Change.TheVariants.{SetHandle, EndHandle, SetCell, EndCell, SetField, Make, TurnHusk}
use Rattle.trace_types.specs.declared.kinds.Kind.{Kind}
use Rattle.trace_types.specs.declared.kinds.Kind.TheVariants as kind
use Rattle.trace_types.specs.Operation.{Operation}
use Rattle.ownership_model.specs.declared.key.Key.{Key}
use Rattle.ownership_model.specs.declared.key.Key.TheVariants.{Handle, Object}
use Rattle.ownership_model.specs.declared.plan.Plan.{Plan}
use Rattle.ownership_model.specs.declared.plan.Plan.TheVariants.{Skip, Act}
use Rattle.ownership_model.specs.State.{State}
use Rattle.ownership_model.specs.View.{members, held_by, named_in}
use Rattle.ownership_model.specs.Footprint.{footprint, moved, footprints_from, moved_from}
use Rattle.object_heap.specs.Told.{release_keys}

-- what an operation touches, and what it moves or copies beside
abbrev pub step_keys : State → Operation → List Key
step_keys m op = footprint m op ++ moved m op

-- what operations in turn touch, and what they move or copy beside
abbrev pub replay_keys : State → List Operation → List Key
replay_keys m ops = footprints_from m ops ++ moved_from m ops

-- the object that the first handle of an operation names
abbrev pub first_keys : State → Kind → List Key
first_keys m kd = map Object (option_to_list (named_in (held_by m (members [] kd).first)))

-- the handle that a change ends
abbrev pub ended_key : Change → List Key
ended_key (EndHandle h) = Handle h ∷ []
ended_key (SetHandle t h held) = []
ended_key (SetCell c s) = []
ended_key (EndCell c) = []
ended_key (SetField o i s) = []
ended_key (Make o fields) = []
ended_key (TurnHusk o) = []

-- the handles of a scope that ends
abbrev pub ended_keys : Kind → List Change → List Key
ended_keys kind.ScopeEnd changes = flat_map ended_key changes
ended_keys _ changes = []

-- what an operation reads or sets, and what neither it nor its outcome names, nor its plan moves: where it is skipped, the object that its
-- first handle names; where it ends a scope, the handles of the scope
abbrev pub unnamed_keys : State → Kind → Plan → List Key
unnamed_keys m kd (Skip reason) = first_keys m kd
unnamed_keys m kd (Act answer changes event pending object) = ended_keys kd changes

-- what a plan moves and drops
abbrev pub carried_keys : State → Plan → List Key
carried_keys m (Skip reason) = []
carried_keys m (Act answer changes event pending object) = release_keys m changes pending
