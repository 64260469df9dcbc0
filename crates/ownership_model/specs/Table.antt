-- The table of operations: by what an operation reads, why it is skipped or what it does. Its rows stand below, one for each
-- kind, with the method that it is. That an operation that can't be done is skipped, and with which reason, is a profile of
-- this project; what is done is std's, and for cells that of ISO/IEC 14882:2020 [util.smartptr.atomic]. Fields of values are
-- Rust's: what is set drops what stood there (Rust Reference, Destructors: assignment); what is taken leaves an empty pointer
-- (Option::take).
use Rattle.std.specs.Prelude.{ℕ, ◌==◌, List, [], ◌∷◌, Option, Some, None, Bool, true, false, ◌&&◌, if◌then◌else◌, slice_get, slice_set}
use Rattle.trace_types.specs.declared.slots.Slot.{Slot}
use Rattle.trace_types.specs.declared.slots.Slot.TheVariants.{Nothing, Strong, Weak, Dangling}
use Rattle.trace_types.specs.declared.slots.Holding.{Holding}
use Rattle.trace_types.specs.declared.slots.Holding.TheVariants as holding
use Rattle.trace_types.specs.declared.slots.Entry.{Entry}
use Rattle.trace_types.specs.declared.slots.Entry.TheVariants.{Alive, Husk}
use Rattle.trace_types.specs.declared.slots.Item.{Item}
use Rattle.trace_types.specs.declared.slots.Item.TheVariants as item
use Rattle.trace_types.specs.declared.slots.Change.{Change}
use Rattle.trace_types.specs.declared.slots.Change.TheVariants.{SetHandle, EndHandle, SetCell, EndCell, SetField, Make, TurnHusk}
use Rattle.trace_types.specs.declared.kinds.Kind.{Kind}
use Rattle.trace_types.specs.declared.kinds.Kind.TheVariants as kind
use Rattle.trace_types.specs.declared.outcomes.Answer.{Answer}
use Rattle.trace_types.specs.declared.outcomes.Answer.TheVariants as answer
use Rattle.trace_types.specs.declared.outcomes.Event.TheVariants as event
use Rattle.trace_types.specs.declared.outcomes.Reason.TheVariants.{SameName, NotHeld, NoCell, WrongKind, NoField, AlreadyHeld, CellHeld}
use Rattle.trace_types.specs.Operation.{Operation}
use Rattle.ownership_model.specs.declared.plan.Plan.{Plan}
use Rattle.ownership_model.specs.declared.plan.Plan.TheVariants.{Skip, Act}
use Rattle.ownership_model.specs.State.{is_alive}
use Rattle.ownership_model.specs.Release.{drops}
use Rattle.ownership_model.specs.View.{View, Element, Read, Null, Me, Seen, named_by, repeated}

-- What the members of an operation want, asked in this order: no handle twice; each handle is held and each cell is there; each
-- handle holds the right kind of thing; the field is there; what is to be made is not. Each question has the rest of the row
-- as its last argument, and answers with a reason or with the rest, at what it found.

-- the handle is held
abbrev pub held : ℕ → Option Holding → (Holding → Plan) → Plan
held h None rest = Skip (NotHeld h)
held h (Some x) rest = rest x

-- the handle that is to be made is not held
abbrev pub unheld : ℕ → Option Holding → Plan → Plan
unheld to None rest = rest
unheld to (Some x) rest = Skip (AlreadyHeld to)

-- the cell is there
abbrev pub in_cell : ℕ → Option Slot → (Slot → Plan) → Plan
in_cell c None rest = Skip (NoCell c)
in_cell c (Some s) rest = rest s

-- the cell that is to be made is not there
abbrev pub absent_cell : ℕ → Option Slot → Plan → Plan
absent_cell c None rest = rest
absent_cell c (Some s) rest = Skip (CellHeld c)

-- a pointer of any kind, and no value
abbrev pub slot_in : ℕ → Holding → (Slot → Plan) → Plan
slot_in h (holding.Slot s) rest = rest s
slot_in h (holding.Bare fields) rest = Skip (WrongKind h)

-- a value outside any allocation
abbrev pub bare_in : ℕ → Holding → (List Slot → Plan) → Plan
bare_in h (holding.Slot s) rest = Skip (WrongKind h)
bare_in h (holding.Bare fields) rest = rest fields

-- an Arc
abbrev pub strong_in : ℕ → Holding → (ℕ → Plan) → Plan
strong_in h (holding.Slot (Strong o)) rest = rest o
strong_in h (holding.Slot Nothing) rest = Skip (WrongKind h)
strong_in h (holding.Slot (Weak o)) rest = Skip (WrongKind h)
strong_in h (holding.Slot Dangling) rest = Skip (WrongKind h)
strong_in h (holding.Bare fields) rest = Skip (WrongKind h)

-- a Weak: it names an object, or none as `Weak::new` makes it
abbrev pub weak_in : ℕ → Holding → (Option ℕ → Plan) → Plan
weak_in h (holding.Slot (Weak o)) rest = rest (Some o)
weak_in h (holding.Slot Dangling) rest = rest None
weak_in h (holding.Slot (Strong o)) rest = Skip (WrongKind h)
weak_in h (holding.Slot Nothing) rest = Skip (WrongKind h)
weak_in h (holding.Bare fields) rest = Skip (WrongKind h)

-- an Arc or a Weak
abbrev pub counted_in : ℕ → Holding → (Option ℕ → Plan) → Plan
counted_in h (holding.Slot (Strong o)) rest = rest (Some o)
counted_in h (holding.Slot (Weak o)) rest = rest (Some o)
counted_in h (holding.Slot Dangling) rest = rest None
counted_in h (holding.Slot Nothing) rest = Skip (WrongKind h)
counted_in h (holding.Bare fields) rest = Skip (WrongKind h)

-- what a cell may hold of it: an Arc or an empty pointer, as a shared_ptr may be
abbrev pub pointer_of : Holding → Option Slot
pointer_of (holding.Slot Nothing) = Some Nothing
pointer_of (holding.Slot (Strong o)) = Some (Strong o)
pointer_of (holding.Slot (Weak o)) = None
pointer_of (holding.Slot Dangling) = None
pointer_of (holding.Bare fields) = None

-- the handle holds the right kind of thing
abbrev pub kind_wanted : {X : Type 0} → ℕ → Option X → (X → Plan) → Plan
kind_wanted h None rest = Skip (WrongKind h)
kind_wanted h (Some x) rest = rest x

-- what a cell may hold
abbrev pub pointer_in : ℕ → Holding → (Slot → Plan) → Plan
pointer_in h x rest = kind_wanted h (pointer_of x) rest

-- the fields of the value, where it lives
abbrev pub fields_of : Option Entry → List Slot
fields_of (Some (Alive fields)) = fields
fields_of (Some Husk) = []
fields_of None = []

-- an Arc, whose value's fields are meant, or a value outside any allocation
abbrev pub fields_in : ℕ → Holding → Option Entry → (Option ℕ → List Slot → Plan) → Plan
fields_in h (holding.Slot (Strong o)) entry rest = rest (Some o) (fields_of entry)
fields_in h (holding.Bare fields) entry rest = rest None fields
fields_in h (holding.Slot Nothing) entry rest = Skip (WrongKind h)
fields_in h (holding.Slot (Weak o)) entry rest = Skip (WrongKind h)
fields_in h (holding.Slot Dangling) entry rest = Skip (WrongKind h)

-- the value has the field, counted from 0
abbrev pub field_at : ℕ → Option Slot → (Slot → Plan) → Plan
field_at i None rest = Skip (NoField i)
field_at i (Some s) rest = rest s

-- the change that sets field i: of an object, or of the value that h itself holds
abbrev pub write_field : ℕ → ℕ → Option ℕ → List Slot → ℕ → Slot → Change
write_field label h (Some o) fields i s = SetField o i s
write_field label h None fields i s = SetHandle label h (holding.Bare (slice_set fields i s))

-- The elements of `fields` of a new object, one by one.

-- the first handle that is not held
abbrev pub first_unheld : List Element → Option ℕ
first_unheld [] = None
first_unheld (Read h None ∷ es) = Some h
first_unheld (Read h (Some x) ∷ es) = first_unheld es
first_unheld (Null ∷ es) = first_unheld es
first_unheld (Me ∷ es) = first_unheld es

-- the first handle that holds no slot, but a value
abbrev pub first_bare : List Element → Option ℕ
first_bare [] = None
first_bare (Read h None ∷ es) = first_bare es
first_bare (Read h (Some (holding.Slot s)) ∷ es) = first_bare es
first_bare (Read h (Some (holding.Bare fields)) ∷ es) = Some h
first_bare (Null ∷ es) = first_bare es
first_bare (Me ∷ es) = first_bare es

-- each handle among them is held: there is no first one that isn't
abbrev pub all_held : Option ℕ → Plan → Plan
all_held None rest = rest
all_held (Some h) rest = Skip (NotHeld h)

-- each handle among them holds a slot: there is no first one that holds a value
abbrev pub all_slots : Option ℕ → Plan → Plan
all_slots None rest = rest
all_slots (Some h) rest = Skip (WrongKind h)

-- the slot that an element's handle holds; asked only where it holds one
abbrev pub slot_of : Option Holding → Slot
slot_of None = Nothing
slot_of (Some (holding.Slot s)) = s
slot_of (Some (holding.Bare fields)) = Nothing

-- the fields of the object with that number: what the handles hold, in order; `me` is the Weak to the object itself
abbrev pub made_fields : ℕ → List Element → List Slot
made_fields id [] = []
made_fields id (Read h there ∷ es) = slot_of there ∷ made_fields id es
made_fields id (Null ∷ es) = Nothing ∷ made_fields id es
made_fields id (Me ∷ es) = Weak id ∷ made_fields id es

-- the handles that are named end, since what they hold moves into the fields; and then the rest
abbrev pub ending : List Element → List Change → List Change
ending [] rest = rest
ending (Read h there ∷ es) rest = EndHandle h ∷ ending es rest
ending (Null ∷ es) rest = ending es rest
ending (Me ∷ es) rest = ending es rest

-- what a handle holds, to be dropped: its slot, or all fields of the value, in order
abbrev pub holding_drops : Option Holding → List Item → List Item
holding_drops None rest = rest
holding_drops (Some (holding.Slot s)) rest = item.Slot s ∷ rest
holding_drops (Some (holding.Bare fields)) rest = drops fields rest

-- what the handles that are named hold, to be dropped in their order
abbrev pub held_drops : List Element → List Item
held_drops [] = []
held_drops (Read h there ∷ es) = holding_drops there (held_drops es)
held_drops (Null ∷ es) = held_drops es
held_drops (Me ∷ es) = held_drops es

-- What the rows do, where it takes more than a line.

-- an operation that names no event itself
abbrev pub act : Answer → List Change → List Item → Option ℕ → Plan
act answer changes pending object = Act answer changes None pending object

-- an object comes to be, and a handle holds the Arc to it
abbrev pub make : ℕ → ℕ → List Slot → ℕ → List Change
make label id fields to = Make id fields ∷ SetHandle label to (holding.Slot (Strong id)) ∷ []

-- Arc::new, Arc::new_cyclic
abbrev pub new_row : ℕ → ℕ → ℕ → List Element → Option Holding → Plan
new_row label id to es there =
    all_held (first_unheld es) (all_slots (first_bare es) (unheld to there
    (act answer.Made (ending es (make label id (made_fields id es) to)) [] (Some id))))

-- Weak::upgrade: an Arc while the value lives, else None; so a Weak of `Weak::new` gives None
abbrev pub upgraded : ℕ → ℕ → Option Entry → Option ℕ → Plan
upgraded label to entry None = act answer.No (SetHandle label to (holding.Slot Nothing) ∷ []) [] None
upgraded label to entry (Some o) =
    if is_alive entry
    then act answer.Yes (SetHandle label to (holding.Slot (Strong o)) ∷ []) [] (Some o)
    else act answer.No (SetHandle label to (holding.Slot Nothing) ∷ []) [] (Some o)

-- Arc::try_unwrap, Arc::into_inner of the only Arc: the value moves out, whatever Weaks there are. The allocation is freed
-- where there are none
abbrev pub unwrapped : ℕ → ℕ → ℕ → List Slot → Plan
unwrapped label h o fields =
    Act answer.Yes (TurnHusk o ∷ SetHandle label h (holding.Bare fields) ∷ []) (Some (event.Unwrapped o)) (item.End o ∷ []) (Some o)

-- Arc::make_mut: where other Arcs share the value, it is cloned into a new allocation; where only Weaks are left beside, it is
-- moved into a new one, and the Weaks stay with the old; where nothing else names it, it stays. That the clone of a value
-- clones its slots in order, without an event, is a profile of this project
abbrev pub made_unique : ℕ → ℕ → ℕ → ℕ → Seen → Plan
made_unique label id h o it =
    if it.strong == 1
    then if it.weak == 0
    then act answer.Unique [] [] (Some o)
    else Act answer.Moved (TurnHusk o ∷ make label id (fields_of it.entry) h) (Some (event.Moved o)) [] (Some id)
    else act answer.Cloned (make label id (fields_of it.entry) h) (item.Slot (Strong o) ∷ []) (Some id)

-- drop of a handle: of the slot, or of all fields of the value that it holds
abbrev pub dropped : ℕ → Holding → Plan
dropped h (holding.Slot s) = act answer.Done (EndHandle h ∷ []) (item.Slot s ∷ []) (named_by s)
dropped h (holding.Bare fields) = act answer.Done (EndHandle h ∷ []) (drops fields []) None

-- the answer to a question
abbrev pub yes_if : Bool → Answer
yes_if true = answer.Yes
yes_if false = answer.No

-- whether two shared pointers are equivalent: both are empty, or both point to one object and share its ownership
-- ([util.smartptr.atomic], compare_exchange_strong)
abbrev pub same_pointer : Slot → Slot → Bool
same_pointer Nothing Nothing = true
same_pointer (Strong o) (Strong p) = o == p
same_pointer _ _ = false

-- atomic<shared_ptr<T>>: store drops what the cell held; exchange hands it out
abbrev pub swapped : ℕ → ℕ → ℕ → Option ℕ → Option Holding → Slot → Slot → Plan
swapped label c from None there old s = act answer.Done (EndHandle from ∷ SetCell c s ∷ []) (item.Slot old ∷ []) (named_by s)
swapped label c from (Some to) there old s =
    unheld to there (act answer.Done (EndHandle from ∷ SetCell c s ∷ SetHandle label to (holding.Slot old) ∷ []) [] (named_by s))

-- atomic<shared_ptr<T>>: compare_exchange_strong. Where the cell holds what was expected, it takes what is desired, and what it
-- held is dropped. Else what was expected is dropped and becomes a copy of what the cell holds, and then what was desired is
-- dropped, as it was moved into the call; the order of these two drops is a profile of this project
abbrev pub exchanged : ℕ → ℕ → ℕ → ℕ → Slot → Slot → Slot → Plan
exchanged label c expected desired old e d =
    if same_pointer old e
    then act answer.Yes (EndHandle desired ∷ SetCell c d ∷ []) (item.Slot old ∷ []) (named_by d)
    else act answer.No (SetHandle label expected (holding.Slot old) ∷ EndHandle desired ∷ []) (item.Slot e ∷ item.Slot d ∷ []) (named_by old)

-- The fields of an owner: an object, or else the value that h itself holds.

-- an assignment to a field: it takes what the handle holds, which ends, and what it held is dropped
abbrev pub set_field : ℕ → ℕ → ℕ → ℕ → Holding → Option ℕ → List Slot → Plan
set_field label h i from y owner fields =
    slot_in from y (λ s. field_at i (slice_get fields i) (λ old.
    act answer.Done (EndHandle from ∷ write_field label h owner fields i s ∷ []) (item.Slot old ∷ []) owner))

-- a move out of a field, which leaves an empty pointer (Option::take: that a field is an Option of an Arc or of a Weak is a
-- profile of this project)
abbrev pub take_field : ℕ → ℕ → ℕ → ℕ → Option Holding → Option ℕ → List Slot → Plan
take_field label h i to there owner fields =
    field_at i (slice_get fields i) (λ s. unheld to there
    (act answer.Done (SetHandle label to (holding.Slot s) ∷ write_field label h owner fields i Nothing ∷ []) [] owner))

-- a clone of what a field holds (Arc::clone, Weak::clone)
abbrev pub copy_field : ℕ → ℕ → ℕ → Option Holding → Option ℕ → List Slot → Plan
copy_field label i to there owner fields =
    field_at i (slice_get fields i) (λ s. unheld to there (act answer.Done (SetHandle label to (holding.Slot s) ∷ []) [] owner))

-- The rows: each asks what its members want, and then says what is answered, what changes, what is then dropped, and whose
-- counts are told.
abbrev pub row_of : ℕ → ℕ → Kind → View → Plan
-- Arc::new: the values move in from the handles, which end
row_of label id (kind.New to fields) v = new_row label id to v.elements v.first
-- Arc::new_cyclic: as new, and a field may be the Weak to the object itself
row_of label id (kind.NewCyclic to fields) v = new_row label id to v.elements v.first
-- Arc::new of a value that Arc::try_unwrap or Arc::into_inner gave
row_of label id (kind.NewFrom from to) v =
    held from v.first (λ x. bare_in from x (λ fields. unheld to v.second
    (act answer.Made (EndHandle from ∷ make label id fields to) [] (Some id))))
-- Weak::new
row_of label id (kind.WeakNew to) v = unheld to v.first (act answer.Done (SetHandle label to (holding.Slot Dangling) ∷ []) [] None)
-- an empty pointer: None in place of an Arc, or shared_ptr's default constructor
row_of label id (kind.Null to) v = unheld to v.first (act answer.Done (SetHandle label to (holding.Slot Nothing) ∷ []) [] None)
-- Arc::clone, Weak::clone
row_of label id (kind.Clone from to) v =
    held from v.first (λ x. slot_in from x (λ s. unheld to v.second
    (act answer.Done (SetHandle label to (holding.Slot s) ∷ []) [] (named_by s))))
-- drop (std::mem::drop; std::sync::Arc, std::sync::Weak: Drop)
row_of label id (kind.Drop h) v = held h v.first (λ x. dropped h x)
-- Arc::downgrade
row_of label id (kind.Downgrade from to) v =
    held from v.first (λ x. strong_in from x (λ o. unheld to v.second
    (act answer.Done (SetHandle label to (holding.Slot (Weak o)) ∷ []) [] (Some o))))
-- Weak::upgrade
row_of label id (kind.Upgrade from to) v =
    held from v.first (λ x. weak_in from x (λ o. unheld to v.second (upgraded label to v.object.entry o)))
-- Arc::try_unwrap: the value where this is the only Arc, else the Arc stays
row_of label id (kind.TryUnwrap h) v =
    held h v.first (λ x. strong_in h x (λ o.
    if v.object.strong == 1 then unwrapped label h o (fields_of v.object.entry) else act answer.No [] [] (Some o)))
-- Arc::into_inner: the value where this is the only Arc, else the Arc is dropped
row_of label id (kind.IntoInner h) v =
    held h v.first (λ x. strong_in h x (λ o.
    if v.object.strong == 1
    then unwrapped label h o (fields_of v.object.entry)
    else act answer.No (SetHandle label h (holding.Slot Nothing) ∷ []) (item.Slot (Strong o) ∷ []) (Some o)))
-- Arc::get_mut: where no other Arc and no Weak names the object
row_of label id (kind.GetMut h) v =
    held h v.first (λ x. strong_in h x (λ o.
    act (yes_if (v.object.strong == 1 && (v.object.weak == 0))) [] [] (Some o)))
-- Arc::make_mut
row_of label id (kind.MakeMut h) v = held h v.first (λ x. strong_in h x (λ o. made_unique label id h o v.object))
-- Arc::strong_count, Arc::weak_count, Weak::strong_count, Weak::weak_count
row_of label id (kind.Counts h) v = held h v.first (λ x. counted_in h x (λ o. act answer.Done [] [] o))
-- Arc::ptr_eq
row_of label id (kind.PtrEq a b) v =
    held a v.first (λ x. held b v.second (λ y. strong_in a x (λ o. strong_in b y (λ p.
    act (yes_if (o == p)) [] [] (Some o)))))
-- an assignment to a field of the value
row_of label id (kind.Set h i from) v =
    held h v.first (λ x. held from v.second (λ y. fields_in h x v.object.entry (λ owner fields. set_field label h i from y owner fields)))
-- a move out of a field of the value
row_of label id (kind.Take h i to) v =
    held h v.first (λ x. fields_in h x v.object.entry (λ owner fields. take_field label h i to v.second owner fields))
-- a clone of a field of the value
row_of label id (kind.Get h i to) v =
    held h v.first (λ x. fields_in h x v.object.entry (λ owner fields. copy_field label i to v.second owner fields))
-- atomic<shared_ptr<T>>: the constructor from a shared_ptr, which is moved in
row_of label id (kind.CellNew c from) v =
    held from v.first (λ x. pointer_in from x (λ s. absent_cell c v.cell
    (act answer.Done (EndHandle from ∷ SetCell c s ∷ []) [] (named_by s))))
-- atomic<shared_ptr<T>>::load
row_of label id (kind.CellLoad c to) v =
    in_cell c v.cell (λ s. unheld to v.first (act answer.Done (SetHandle label to (holding.Slot s) ∷ []) [] (named_by s)))
-- atomic<shared_ptr<T>>::exchange, store
row_of label id (kind.CellSwap c from to) v =
    in_cell c v.cell (λ old. held from v.first (λ x. pointer_in from x (λ s. swapped label c from to v.second old s)))
-- atomic<shared_ptr<T>>::compare_exchange_strong
row_of label id (kind.CellCas c expected desired) v =
    in_cell c v.cell (λ old. held expected v.first (λ x. held desired v.second (λ y.
    pointer_in expected x (λ e. pointer_in desired y (λ d. exchanged label c expected desired old e d)))))
-- atomic<shared_ptr<T>>: the destructor
row_of label id (kind.CellDrop c) v =
    in_cell c v.cell (λ s. act answer.Done (EndCell c ∷ []) (item.Slot s ∷ []) (named_by s))
-- the end of a thread's scope (Rust Reference, Destructors): its handles end, and what they held is dropped, in both that of the
-- handle made last first; no count is told
row_of label id kind.ScopeEnd v = act answer.Done (ending v.elements []) (held_drops v.elements) None

-- a handle that is named twice comes before every other reason
abbrev pub unless_repeated : Option ℕ → Plan → Plan
unless_repeated (Some h) rest = Skip (SameName h)
unless_repeated None rest = rest

-- what an operation is to do
abbrev pub row : Operation → View → Plan
row op v = unless_repeated (repeated op.kind) (row_of op.thread op.id op.kind v)
