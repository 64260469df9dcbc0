-- The footprint of an operation: the handles, cells, objects and scopes that it reads or sets. What it does depends on these alone,
-- and it sets nothing else (profile of this project).
use Rattle.std.specs.Prelude.{ℕ, zero, suc, List, [], ◌∷◌, ◌++◌, map, flat_map, Option, Some, None, option_to_list, slice_get}
use Rattle.std.specs.FinMap.{get}
use Rattle.trace_types.specs.declared.slots.Slot.{Slot}
use Rattle.trace_types.specs.declared.slots.Slot.TheVariants.{Nothing, Strong, Weak, Dangling}
use Rattle.trace_types.specs.declared.slots.Holding.{Holding}
use Rattle.trace_types.specs.declared.slots.Holding.TheVariants as holding
use Rattle.trace_types.specs.declared.slots.Item.{Item}
use Rattle.trace_types.specs.declared.slots.Item.TheVariants as item
use Rattle.trace_types.specs.declared.slots.Change.{Change}
use Rattle.trace_types.specs.declared.slots.Change.TheVariants.{SetHandle, EndHandle, SetCell, EndCell, SetField, Make, TurnHusk}
use Rattle.trace_types.specs.declared.kinds.Kind.{Kind}
use Rattle.trace_types.specs.declared.kinds.Kind.TheVariants as kind
use Rattle.trace_types.specs.Operation.{Operation}
use Rattle.ownership_model.specs.declared.key.Key.{Key}
use Rattle.ownership_model.specs.declared.key.Key.TheVariants.{Handle, Cell, Object, Scope}
use Rattle.ownership_model.specs.declared.plan.Plan.{Plan}
use Rattle.ownership_model.specs.declared.plan.Plan.TheVariants.{Skip, Act}
use Rattle.ownership_model.specs.Scopes.{scope_of}
use Rattle.ownership_model.specs.State.{State}
use Rattle.ownership_model.specs.Release.{drop_first, work}
use Rattle.ownership_model.specs.Changes.{changed, changed_by}
use Rattle.ownership_model.specs.View.{Members, members, held_by, named_in, held_fields, view_of}
use Rattle.ownership_model.specs.Table.{row, fields_of}
use Rattle.ownership_model.specs.Step.{step}

-- ---- what slots name

-- the object that an Arc or a Weak is to
abbrev pub slot_keys : Slot → List Key
slot_keys Nothing = []
slot_keys (Strong o) = Object o ∷ []
slot_keys (Weak o) = Object o ∷ []
slot_keys Dangling = []

-- the objects that fields name
abbrev pub slots_keys : List Slot → List Key
slots_keys fields = flat_map slot_keys fields

-- the objects that what a handle holds names: a slot, or a value outside any allocation by its fields
abbrev pub holding_keys : Option Holding → List Key
holding_keys None = []
holding_keys (Some (holding.Slot s)) = slot_keys s
holding_keys (Some (holding.Bare fields)) = slots_keys fields

-- the object that the slot names, if there is one
abbrev pub cell_keys : Option Slot → List Key
cell_keys None = []
cell_keys (Some s) = slot_keys s

-- the object whose slot is dropped, or whose value ended
abbrev pub item_keys : Item → List Key
item_keys (item.Slot s) = slot_keys s
item_keys (item.End o) = Object o ∷ []

-- ---- what a cascade drops

-- the first items that a cascade drops, one after another, at most so many
abbrev pub taken_within : ℕ → State → List Item → List Item
taken_within n m [] = []
taken_within zero m (x ∷ xs) = []
taken_within (suc n) m (x ∷ xs) = x ∷ taken_within n (drop_first m x xs).state (drop_first m x xs).pending

-- all items that a cascade drops, in order: those that are pending, and those that destroyed values bring, their fields and Ends
unfoldable pub taken : State → List Item → List Item
taken m pending = taken_within (work m pending) m pending

-- ---- what changes set and move

-- the place that a change sets
abbrev pub change_key : Change → Key
change_key (SetHandle t h held) = Handle h
change_key (EndHandle h) = Handle h
change_key (SetCell c s) = Cell c
change_key (EndCell c) = Cell c
change_key (SetField o i s) = Object o
change_key (Make o fields) = Object o
change_key (TurnHusk o) = Object o

-- the objects that slots name that a change puts there, and those that stood there; where an object is made nothing stood
abbrev pub moved_by : State → Change → List Key
moved_by m (SetHandle t h held) = holding_keys (Some held) ++ holding_keys (get m.handles h)
moved_by m (EndHandle h) = holding_keys (get m.handles h)
moved_by m (SetCell c s) = slot_keys s ++ cell_keys (get m.cells c)
moved_by m (EndCell c) = cell_keys (get m.cells c)
moved_by m (SetField o i s) = slot_keys s ++ cell_keys (slice_get (fields_of (get m.objects o)) i)
moved_by m (Make o fields) = slots_keys fields
moved_by m (TurnHusk o) = slots_keys (fields_of (get m.objects o))

-- those of all changes, made in order
abbrev pub moved_by_changes : State → List Change → List Key
moved_by_changes m [] = []
moved_by_changes m (c ∷ cs) = moved_by m c ++ moved_by_changes (changed_by m c) cs

-- ---- what an operation reads and sets

-- the handles and the cell that an operation names
abbrev pub named_keys : Members → List Key
named_keys a = map Handle (option_to_list a.first) ++ (map Handle (option_to_list a.second) ++ (map Handle (held_fields a.fields) ++ map Cell (option_to_list a.cell)))

-- these, and the object that its first handle names
abbrev pub member_keys : State → Members → List Key
member_keys m a = named_keys a ++ map Object (option_to_list (named_in (held_by m a.first)))

-- the end of a scope reads all of its label's scope; no other operation reads one, and a handle that enters or leaves a scope is set
-- by its own key
abbrev pub scope_keys : ℕ → Kind → List Key
scope_keys t kind.ScopeEnd = Scope t ∷ []
scope_keys t _ = []

-- the places that a plan's changes set, the objects of the items that are then dropped, and the object whose counts are told
abbrev pub plan_keys : State → Plan → List Key
plan_keys m (Skip reason) = []
plan_keys m (Act answer changes event pending object) = map change_key changes ++ (flat_map item_keys (taken (changed m changes) pending) ++ map Object (option_to_list object))

-- The footprint of an operation: all that it reads, and each place that it sets
unfoldable pub footprint : State → Operation → List Key
footprint m op =
    scope_keys op.thread op.kind ++ (member_keys m (members (scope_of op.thread m.scopes) op.kind) ++ plan_keys m (row op (view_of m op.thread op.kind)))

-- the objects that slots name that a plan's changes move or copy
abbrev pub moved_by_plan : State → Plan → List Key
moved_by_plan m (Skip reason) = []
moved_by_plan m (Act answer changes event pending object) = moved_by_changes m changes

-- Beside its footprint: the objects that slots name that an operation moves or copies. It doesn't read them, but may change their
-- counts
unfoldable pub moved : State → Operation → List Key
moved m op = moved_by_plan m (row op (view_of m op.thread op.kind))

-- the footprints of operations, each from the state that the one before left
abbrev pub footprints_from : State → List Operation → List Key
footprints_from m [] = []
footprints_from m (op ∷ ops) = footprint m op ++ footprints_from (step m op).state ops

-- what all of them move or copy
abbrev pub moved_from : State → List Operation → List Key
moved_from m [] = []
moved_from m (op ∷ ops) = moved m op ++ moved_from (step m op).state ops
