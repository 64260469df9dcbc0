-- What an operation reads of a state: what stands at the handles and the cell that it names, and the object that its first
-- handle names, with its counts. It does nothing else with the state before it is carried out (profile of this project).
use Rattle.std.specs.Prelude.{ℕ, codes, ◌==◌, List, [], ◌∷◌, ◌++◌, Option, Some, None, if◌then◌else◌, option_to_list, map}
use Rattle.std.specs.List.{list_any}
use Rattle.std.specs.FinMap.{get}
use Rattle.trace_types.specs.Members.{Member, Value}
use Rattle.trace_types.specs.Members as table
use Rattle.trace_types.specs.declared.slots.Slot.{Slot}
use Rattle.trace_types.specs.declared.slots.Holding.{Holding}
use Rattle.trace_types.specs.declared.slots.Holding.TheVariants as holding
use Rattle.trace_types.specs.declared.slots.Entry.{Entry}
use Rattle.trace_types.specs.declared.kinds.Field.{Field}
use Rattle.trace_types.specs.declared.kinds.Field.TheVariants as field
use Rattle.trace_types.specs.declared.kinds.Kind.{Kind}
use Rattle.trace_types.specs.declared.kinds.Kind.TheVariants as kind
pub use Rattle.trace_types.specs.Slots.{named_by}
use Rattle.ownership_model.specs.State.{State, strong, weak}
use Rattle.ownership_model.specs.Scopes.{scope_of}

-- the handles and the cell that an operation names, in the order of the table; `fields` comes last
pub record Members : Type 0 where
  pub first : Option ℕ
  pub second : Option ℕ
  pub cell : Option ℕ
  pub fields : List Field

-- the handle that this value is, or else the one given
abbrev pub handle_or : Value → Option ℕ → Option ℕ
handle_or (table.Handle h) rest = Some h
handle_or (table.PerhapsHandle h) rest = h
handle_or (table.Cell c) rest = rest
handle_or (table.Index i) rest = rest
handle_or (table.Fields fs) rest = rest
handle_or (table.CyclicFields fs) rest = rest

-- the first handle among the members, if there is one; a `to` that is left out is none
abbrev pub first_handle : List Member → Option ℕ
first_handle [] = None
first_handle (m ∷ ms) = handle_or m.value (first_handle ms)

-- the members behind this one where it is a handle, or else those given
abbrev pub behind_or : Value → List Member → List Member → List Member
behind_or (table.Handle h) ms rest = ms
behind_or (table.PerhapsHandle h) ms rest = ms
behind_or (table.Cell c) ms rest = rest
behind_or (table.Index i) ms rest = rest
behind_or (table.Fields fs) ms rest = rest
behind_or (table.CyclicFields fs) ms rest = rest

-- the members behind the first handle
abbrev pub behind_handle : List Member → List Member
behind_handle [] = []
behind_handle (m ∷ ms) = behind_or m.value ms (behind_handle ms)

-- the number of a cell, where this member is one
abbrev pub cell_in : Option Value → Option ℕ
cell_in (Some (table.Cell c)) = Some c
cell_in v = None

-- the elements of `fields`, where this member is that; else none
abbrev pub fields_in : Option Value → List Field
fields_in (Some (table.Fields fs)) = fs
fields_in (Some (table.CyclicFields fs)) = fs
fields_in v = []

-- a handle or cell that is to be made stands among them, in its place; scope_end names the handles of its scope, in the order
-- in which they are dropped
abbrev pub members : List ℕ → Kind → Members
members scope kind.ScopeEnd = record { first = None; second = None; cell = None; fields = map field.Held scope }
members scope k = let ms = table.members k in record {
  first = first_handle ms;
  second = first_handle (behind_handle ms);
  cell = cell_in (table.value_of (codes "c") ms);
  fields = fields_in (table.value_of (codes "fields") ms);
}

-- an element of `fields`: a handle, with what it holds; an empty pointer; in `new_cyclic` the Weak to the object itself
pub data Element : Type 0 where
  Read : (h : ℕ) (held : Option Holding) → Element
  Null : Element
  Me : Element

-- what stands for an object, and its two counts
pub record Seen : Type 0 where
  pub entry : Option Entry
  pub strong : ℕ
  pub weak : ℕ

-- all that an operation reads
pub record View : Type 0 where
  pub first : Option Holding
  pub second : Option Holding
  pub cell : Option Slot
  pub elements : List Element
  pub object : Seen

-- what the handle holds, if one is named
abbrev pub held_by : State → Option ℕ → Option Holding
held_by m None = None
held_by m (Some h) = get m.handles h

-- what the cell holds, if one is named
abbrev pub cell_of : State → Option ℕ → Option Slot
cell_of m None = None
cell_of m (Some c) = get m.cells c

-- an element of `fields`, looked up
abbrev pub element_of : State → Field → Element
element_of m (field.Held h) = Read h (get m.handles h)
element_of m field.Null = Null
element_of m field.Me = Me

-- all elements of `fields`, looked up, in order
abbrev pub elements_of : State → List Field → List Element
elements_of m fs = map (element_of m) fs

-- the object that what a handle holds names; a value outside any allocation names none
abbrev pub named_in : Option Holding → Option ℕ
named_in None = None
named_in (Some (holding.Slot s)) = named_by s
named_in (Some (holding.Bare fields)) = None

-- the object with that number, if there is one; the counts are those before the operation
abbrev pub seen : State → Option ℕ → Seen
seen m None = record { entry = None; strong = 0; weak = 0 }
seen m (Some o) = record { entry = get m.objects o; strong = strong m [] o; weak = weak m [] o }

-- what stands at these members
abbrev pub view_at : State → Members → View
view_at m a = record {
  first = held_by m a.first;
  second = held_by m a.second;
  cell = cell_of m a.cell;
  elements = elements_of m a.fields;
  object = seen m (named_in (held_by m a.first));
}

-- what an operation of this label and kind reads
abbrev pub view_of : State → ℕ → Kind → View
view_of m t k = view_at m (members (scope_of t m.scopes) k)

-- the handles among the elements of `fields`
abbrev pub held_fields : List Field → List ℕ
held_fields [] = []
held_fields (field.Held h ∷ fs) = h ∷ held_fields fs
held_fields (field.Null ∷ fs) = held_fields fs
held_fields (field.Me ∷ fs) = held_fields fs

-- the handles that have to differ: all that an operation names, in order, also one that is to be made; `ptr_eq` alone may name
-- one handle twice, and in a scope none stands twice
abbrev pub apart_handles : Kind → List ℕ
apart_handles (kind.PtrEq a b) = []
apart_handles k = let a = members [] k in option_to_list a.first ++ option_to_list a.second ++ held_fields a.fields

-- the first handle that repeats an earlier one
abbrev pub repeated_in : List ℕ → List ℕ → Option ℕ
repeated_in before [] = None
repeated_in before (h ∷ hs) = if list_any (λ b. b == h) before then Some h else repeated_in (h ∷ before) hs

-- the first handle that an operation names twice, if there is one
abbrev pub repeated : Kind → Option ℕ
repeated k = repeated_in [] (apart_handles k)
