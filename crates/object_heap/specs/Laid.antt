-- A state over which parts of another one are laid: some handles, cells and objects, and then fields (profile of this project).
use Rattle.std.specs.Prelude.{ℕ, ◌≡◌, ◌≤◌, List, [], ◌∷◌, Option, Some, None, length, take}
use Rattle.std.specs.List.{AllByRecursion}
use Rattle.std.specs.FinMap.{get, insert, remove}
use Rattle.trace_types.specs.declared.limits.TheConstants.{MAX_NAME, MAX_THREAD}
use Rattle.trace_types.specs.declared.slots.Slot.{Slot}
use Rattle.trace_types.specs.declared.slots.Holding.{Holding}
use Rattle.trace_types.specs.declared.slots.Entry.{Entry}
use Rattle.trace_types.specs.declared.slots.Entry.TheVariants.{Alive, Husk}
use Rattle.trace_types.specs.declared.slots.Change.TheVariants.{SetField}
use Rattle.ownership_model.specs.State.{State, IsPointer}
use Rattle.ownership_model.specs.Scopes.{left}
use Rattle.ownership_model.specs.Bounds.{IsBounded, HoldingFits}
use Rattle.ownership_model.specs.Changes.{changed_by, HasField}
use Rattle.object_heap.specs.declared.draft.Draft.{Draft}
use Rattle.object_heap.specs.declared.put.Put.{Put}
use Rattle.object_heap.specs.declared.put.FieldPut.{FieldPut}
use Rattle.object_heap.specs.Counted.{drafted, IsCounted}
use Rattle.object_heap.specs.Exchange.{without_object, with_object}
use Rattle.object_heap.specs.Links.{entered_above, IsAbove}

-- a handle that holds this is held no more
abbrev pub ended_at : Option Holding → ℕ → State → State
ended_at None h m = m
ended_at (Some x) h m = record m { handles = remove m.handles h; scopes = left h m.scopes }

-- these handles are held no more
abbrev pub without_handles : List ℕ → State → State
without_handles [] m = m
without_handles (h ∷ hs) m = without_handles hs (ended_at (get m.handles h) h m)

-- a handle is put into its scope
abbrev pub with_put : Put → State → State
with_put p m = record m { handles = insert m.handles p.handle p.holding; scopes = entered_above p.label p.handle p.under m.scopes }

-- handles are put into their scopes, one after another
abbrev pub with_puts : List Put → State → State
with_puts [] m = m
with_puts (p ∷ ps) m = with_puts ps (with_put p m)

-- none of them is held before, and what each is to stand above stands in its scope then
abbrev pub CanPut : State → List Put → Type 0
CanPut m [] = Unit {0}
CanPut m (p ∷ ps) = (get m.handles p.handle ≡ None) × (IsAbove p.under p.label m.scopes) × CanPut (with_put p m) ps

-- what is put keeps the limits of a state
abbrev pub PutFits : Put → Type 0
PutFits p = (p.label ≤ MAX_THREAD) × ((p.handle ≤ MAX_NAME) × HoldingFits p.holding)

abbrev pub PutsFit : List Put → Type 0
PutsFit ps = AllByRecursion PutFits ps

-- a cell that holds this is there no more
abbrev pub cell_ended : Option Slot → ℕ → State → State
cell_ended None c m = m
cell_ended (Some s) c m = record m { cells = remove m.cells c }

-- a cell holds this, or is there no more
abbrev pub with_cell : Option Slot → ℕ → State → State
with_cell None c m = cell_ended (get m.cells c) c m
with_cell (Some s) c m = record m { cells = insert m.cells c s }

-- these cells hold what they hold in another state
abbrev pub with_cells : State → List ℕ → State → State
with_cells n [] m = m
with_cells n (c ∷ cs) m = with_cells n cs (with_cell (get n.cells c) c m)

-- this stands for an object, or nothing does
abbrev pub with_entry : Option Entry → ℕ → State → State
with_entry None o m = without_object m o
with_entry (Some e) o m = with_object m o e

-- for these objects stands what stands for them in another state
abbrev pub with_entries : State → List ℕ → State → State
with_entries n [] m = m
with_entries n (o ∷ os) m = with_entries n os (with_entry (get n.objects o) o m)

-- the state m, without these handles, with these puts, and with these cells and objects of the state n
abbrev pub laid_over : State → (handles cells objects : List ℕ) → List Put → State → State
laid_over n hs cs os ps m = with_entries n os (with_cells n cs (with_puts ps (without_handles hs m)))

-- a field of an object holds this
abbrev pub with_field_put : FieldPut → State → State
with_field_put f m = changed_by m (SetField f.object f.index f.slot)

-- so do fields, one after another
abbrev pub with_fields : List FieldPut → State → State
with_fields [] m = m
with_fields (f ∷ fs) m = with_fields fs (with_field_put f m)

-- each field is there when its turn comes
abbrev pub CanSet : State → List FieldPut → Type 0
CanSet m [] = Unit {0}
CanSet m (f ∷ fs) = HasField (get m.objects f.object) f.index × CanSet (with_field_put f m) fs

-- For private functions alone: a draft holds this state, with its counts
pub record IsDrafted (new : Draft) (m : State) : Type 0 where
  pub state : drafted new ≡ m
  pub counted : IsCounted new.objects.counts (drafted new) []
  pub bounded : IsBounded (drafted new)

-- what is to be put into a cell may be held there
abbrev pub MayHold : Option Slot → Type 0
MayHold None = Unit {0}
MayHold (Some s) = IsPointer s

-- an object is alive and has as many fields as these are, and the first n of both are the same
abbrev pub BeginAlike : Option Entry → List Slot → ℕ → Type 0
BeginAlike None slots n = ⊥
BeginAlike (Some Husk) slots n = ⊥
BeginAlike (Some (Alive fields)) slots n = (length fields ≡ length slots) × ((n ≤ length slots) × (take n fields ≡ take n slots))
