-- Which places operations set, and what names these: much of what an operation touches it only reads (profile of this project).
use Rattle.std.specs.Prelude.{ℕ, ◌≡◌, List, [], ◌∷◌, ◌++◌, map, Option, None, Some, Bool, true, false, is_some, not, if◌then◌else◌, option_to_list}
use Rattle.std.specs.List.{list_any}
use Rattle.trace_types.specs.declared.kinds.Kind.{Kind}
use Rattle.trace_types.specs.declared.kinds.Kind.TheVariants as kind
use Rattle.trace_types.specs.declared.outcomes.Outcome.{Outcome}
use Rattle.trace_types.specs.Operation.{Operation}
use Rattle.ownership_model.specs.declared.key.Key.{Key}
use Rattle.ownership_model.specs.declared.key.Key.TheVariants.{Handle, Cell, Object}
use Rattle.ownership_model.specs.declared.plan.Plan.{Plan}
use Rattle.ownership_model.specs.declared.plan.Plan.TheVariants.{Skip, Act}
use Rattle.ownership_model.specs.State.{State}
use Rattle.ownership_model.specs.Release.{release}
use Rattle.ownership_model.specs.Changes.{changed}
use Rattle.ownership_model.specs.View.{view_of, held_fields}
use Rattle.ownership_model.specs.Table.{row}
use Rattle.ownership_model.specs.Step.{step, outcomes_from}
use Rattle.ownership_model.specs.Touched.{event_object, counted}
use Rattle.ownership_model.specs.Alike.{AreWithin}
use Rattle.ownership_model.specs.Before.{is_scope_end}
use Rattle.ownership_model.specs.Footprint.{change_key, footprints_from}

-- ---- what is set
-- the places that a plan's changes set, and the objects whose values or allocations end in its cascade
abbrev pub set_by_plan : State → Plan → List Key
set_by_plan m (Skip reason) = []
set_by_plan m (Act answer changes event pending object) = map change_key changes ++ map Object (map event_object (release (changed m changes) pending).events)

-- The places that an operation sets. Elsewhere the same stands behind it; but counts may change, and scopes have no key here
unfoldable pub set_by : State → Operation → List Key
set_by m op = set_by_plan m (row op (view_of m op.thread op.kind))

-- those of operations in turn, each from the state that the one before left
abbrev pub sets_from : State → List Operation → List Key
sets_from m [] = []
sets_from m (op ∷ ops) = set_by m op ++ sets_from (step m op).state ops

-- ---- what names it
-- the handle, if it holds the value itself whose field is meant
abbrev pub if_owner : Bool → ℕ → List ℕ
if_owner is h = if is then h ∷ [] else []

-- the handles that an operation of this kind makes, sets or ends, where the end of a scope has none; of a field's owner it is known whether the
-- handle holds the value itself
abbrev pub set_handles : (owns : Bool) → Kind → List ℕ
set_handles owns (kind.New to fields) = to ∷ held_fields fields
set_handles owns (kind.NewCyclic to fields) = to ∷ held_fields fields
set_handles owns (kind.NewFrom from to) = from ∷ to ∷ []
set_handles owns (kind.WeakNew to) = to ∷ []
set_handles owns (kind.Null to) = to ∷ []
set_handles owns (kind.Clone from to) = to ∷ []
set_handles owns (kind.Drop h) = h ∷ []
set_handles owns (kind.Downgrade from to) = to ∷ []
set_handles owns (kind.Upgrade from to) = to ∷ []
set_handles owns (kind.TryUnwrap h) = h ∷ []
set_handles owns (kind.IntoInner h) = h ∷ []
set_handles owns (kind.GetMut h) = []
set_handles owns (kind.MakeMut h) = h ∷ []
set_handles owns (kind.Counts h) = []
set_handles owns (kind.PtrEq a b) = []
set_handles owns (kind.Set h i from) = from ∷ if_owner owns h
set_handles owns (kind.Take h i to) = to ∷ if_owner owns h
set_handles owns (kind.Get h i to) = to ∷ []
set_handles owns (kind.CellNew c from) = from ∷ []
set_handles owns (kind.CellLoad c to) = to ∷ []
set_handles owns (kind.CellSwap c from to) = from ∷ option_to_list to
set_handles owns (kind.CellCas c expected desired) = expected ∷ desired ∷ []
set_handles owns (kind.CellDrop c) = []
set_handles owns kind.ScopeEnd = []

-- the cell that it makes, sets or ends
abbrev pub set_cell : Kind → Option ℕ
set_cell (kind.CellNew c from) = Some c
set_cell (kind.CellSwap c from to) = Some c
set_cell (kind.CellCas c expected desired) = Some c
set_cell (kind.CellDrop c) = Some c
set_cell k = None

-- whether it may set the object whose counts it tells: it makes it, or sets a field of it
abbrev pub sets_counted : Kind → Bool
sets_counted (kind.New to fields) = true
sets_counted (kind.NewCyclic to fields) = true
sets_counted (kind.NewFrom from to) = true
sets_counted (kind.MakeMut h) = true
sets_counted (kind.Set h i from) = true
sets_counted (kind.Take h i to) = true
sets_counted k = false

-- the objects that it may set: those of its events, and that whose counts are told
abbrev pub set_objects : Kind → Outcome → List ℕ
set_objects k x = map event_object x.events ++ (if sets_counted k then counted x.counts else [])

-- all that it may set; where it tells no counts, the value whose field is meant is that of the handle itself
abbrev pub set_names : Kind → Outcome → List Key
set_names k x = map Handle (set_handles (not (is_some x.counts)) k) ++ (map Cell (option_to_list (set_cell k)) ++ map Object (set_objects k x))

-- so of operations with their outcomes
abbrev pub set_names_of : List Operation → List Outcome → List Key
set_names_of [] xs = []
set_names_of (op ∷ ops) [] = []
set_names_of (op ∷ ops) (x ∷ xs) = set_names op.kind x ++ set_names_of ops xs

-- whether one of the operations ends a scope
abbrev pub end_scopes : List Operation → Bool
end_scopes ops = list_any (λ (op : Operation). is_scope_end op.kind) ops

-- ---- the laws
-- What operations and their outcomes name so is all that they set; where one ends a scope, all that they touch is
abbrev pub SetsAreNamed : Type 0
SetsAreNamed = (k : Key → Bool) (m : State) (ops : List Operation) → AreWithin k (set_names_of ops (outcomes_from m ops)) → (end_scopes ops ≡ true → AreWithin k (footprints_from m ops)) → AreWithin k (sets_from m ops)

-- what operations set is among what they touch
abbrev pub SetsAreTouched : Type 0
SetsAreTouched = (k : Key → Bool) (m : State) (ops : List Operation) → AreWithin k (footprints_from m ops) → AreWithin k (sets_from m ops)
