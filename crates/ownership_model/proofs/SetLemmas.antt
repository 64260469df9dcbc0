-- What operations and their outcomes name has all that they set.
use Rattle.std.proofs.Common.{◌≡◌, ℕ, zero, suc, List, [], ◌∷◌, ◌++◌, map, Bool, true, refl}
use Rattle.std.specs.Prelude.{Option, Some, None, ◌==◌, not, is_some, if◌then◌else◌, flat_map, option_to_list, slice_get}
use Rattle.trace_types.specs.declared.slots.Slot.{Slot}
use Rattle.trace_types.specs.declared.slots.Slot.TheVariants.{Nothing}
use Rattle.trace_types.specs.declared.slots.Holding.{Holding}
use Rattle.trace_types.specs.declared.slots.Holding.TheVariants as holding
use Rattle.trace_types.specs.declared.slots.Entry.{Entry}
use Rattle.trace_types.specs.declared.slots.Item.{Item}
use Rattle.trace_types.specs.declared.slots.Change.{Change}
use Rattle.trace_types.specs.declared.kinds.Field.{Field}
use Rattle.trace_types.specs.declared.kinds.Field.TheVariants as field
use Rattle.trace_types.specs.declared.kinds.Kind.{Kind}
use Rattle.trace_types.specs.declared.kinds.Kind.TheVariants as kind
use Rattle.trace_types.specs.declared.outcomes.Event.{Event}
use Rattle.trace_types.specs.declared.outcomes.Counts.{Counts}
use Rattle.trace_types.specs.Operation.{Operation}
use Rattle.ownership_model.specs.declared.key.Key.{Key}
use Rattle.ownership_model.specs.declared.key.Key.TheVariants.{Handle, Cell, Object}
use Rattle.ownership_model.specs.declared.plan.Plan.{Plan}
use Rattle.ownership_model.specs.declared.plan.Plan.TheVariants.{Skip, Act}
use Rattle.ownership_model.specs.State.{State, is_alive}
use Rattle.ownership_model.specs.Scopes.{scope_of}
use Rattle.ownership_model.specs.Release.{Fate, Stays, Falls, Goes, fate, left_by, drop_first, release, release_within, work}
use Rattle.ownership_model.specs.Changes.{changed}
use Rattle.ownership_model.specs.View.{Element, Read, Null, Me, Seen, View, Members, members, elements_of, held_fields, view_of, repeated}
use Rattle.ownership_model.specs.Table.{row, row_of, new_row, upgraded, made_unique, dropped, swapped, exchanged, write_field, set_field, take_field, copy_field, fields_of, made_fields, ending, first_unheld, first_bare, same_pointer, make}
use Rattle.ownership_model.specs.Step.{step, carried_out, counts_of}
use Rattle.ownership_model.specs.Touched.{event_object, counted}
use Rattle.ownership_model.specs.Alike.{AreWithin}
use Rattle.ownership_model.specs.Footprint.{item_keys, taken_within, taken, change_key, scope_keys, member_keys, plan_keys, footprint}
use Rattle.ownership_model.specs.Before.{is_scope_end}
use Rattle.ownership_model.specs.Sets.{set_by_plan, set_by, if_owner, set_handles, set_cell, sets_counted, set_names, end_scopes, SetsAreNamed, SetsAreTouched}
use Rattle.ownership_model.proofs.Searching.{or_left, or_right}
use Rattle.ownership_model.proofs.WalkLemmas as walk
use Rattle.ownership_model.proofs.AlikeLemmas.{within_front, within_back, IsOf, fate_of}
use Rattle.ownership_model.proofs.OutsideLemmas.{AreEventsOf, both}

module _ (k : Key → Bool) where
  -- ---- the rows
  -- the handles of all these elements are in the set
  abbrev ElementsWithin : List Element → Type 0
  ElementsWithin [] = Unit {0}
  ElementsWithin (Read h x ∷ es) = (k (Handle h) ≡ true) × ElementsWithin es
  ElementsWithin (Null ∷ es) = ElementsWithin es
  ElementsWithin (Me ∷ es) = ElementsWithin es

  -- so is what an operation of this kind names, with the event of its own and the counts that it tells
  record Named (kd : Kind) (es : List Element) (event : Option Event) (counts : Option Counts) : Type 0 where
    pub elements : ElementsWithin es
    pub handles : AreWithin k (map Handle (set_handles (not (is_some counts)) kd))
    pub cells : AreWithin k (map Cell (option_to_list (set_cell kd)))
    pub events : AreWithin k (map Object (map event_object (option_to_list event)))
    pub counted : AreWithin k (map Object (if sets_counted kd then counted counts else []))

  -- where this is so, all that the plan's changes set is in the set
  abbrev Sets : Kind → List Element → Plan → Type 0
  Sets kd es (Skip why) = Unit {0}
  Sets kd es (Act answer changes event pending object) = (later : State) → Named kd es event (counts_of later object) → AreWithin k (map change_key changes)

  -- the handles of the elements end
  ending_within : (es : List Element) (cs : List Change) → ElementsWithin es → AreWithin k (map change_key cs) → AreWithin k (map change_key (ending es cs))
  ending_within [] cs c d = d
  ending_within (Read h x ∷ es) cs c d = (c.0, ending_within es cs c.1 d)
  ending_within (Null ∷ es) cs c d = ending_within es cs c d
  ending_within (Me ∷ es) cs c d = ending_within es cs c d

  module _ (label id : ℕ) where
    -- a field is set of the object whose counts are told, or else of the value that the handle holds
    write_within : (h : ℕ) (owner : Option ℕ) (fields : List Slot) (i : ℕ) (s : Slot) (later : State) → AreWithin k (map Handle (if_owner (not (is_some (counts_of later owner))) h))
        → AreWithin k (map Object (counted (counts_of later owner))) → k (change_key (write_field label h owner fields i s)) ≡ true
    write_within h (Some o) fields i s later c d = d.0
    write_within h None fields i s later c d = c.0

    -- what takes more than a line
    new_sets : (to : ℕ) (fields : List Field) (es : List Element) (it : Option Holding) → Sets (kind.New to fields) es (new_row label id to es it)
    new_sets to fields es it =
        let P : Plan → Type 0 = Sets (kind.New to fields) es in
        walk.at_all_held P (λ _. tt) (first_unheld es) _ (λ _. walk.at_all_slots P (λ _. tt) (first_bare es) _ (λ _. walk.at_unheld P (λ _. tt) to it _
        (λ _ later n. ending_within es (make label id (made_fields id es) to) n.elements (n.counted.0, (n.handles.0, tt)))))

    cyclic_sets : (to : ℕ) (fields : List Field) (es : List Element) (it : Option Holding) → Sets (kind.NewCyclic to fields) es (new_row label id to es it)
    cyclic_sets to fields es it =
        let P : Plan → Type 0 = Sets (kind.NewCyclic to fields) es in
        walk.at_all_held P (λ _. tt) (first_unheld es) _ (λ _. walk.at_all_slots P (λ _. tt) (first_bare es) _ (λ _. walk.at_unheld P (λ _. tt) to it _
        (λ _ later n. ending_within es (make label id (made_fields id es) to) n.elements (n.counted.0, (n.handles.0, tt)))))

    upgraded_sets : (es : List Element) (from to : ℕ) (e : Option Entry) (o : Option ℕ) → Sets (kind.Upgrade from to) es (upgraded label to e o)
    upgraded_sets es from to e None = λ later n. (n.handles.0, tt)
    upgraded_sets es from to e (Some o) = walk.at_test (Sets (kind.Upgrade from to) es) (λ _. tt) (is_alive e) _ _ (λ _ later n. (n.handles.0, tt)) (λ _ later n. (n.handles.0, tt))

    unique_sets : (es : List Element) (h o : ℕ) (it : Seen) → Sets (kind.MakeMut h) es (made_unique label id h o it)
    unique_sets es h o it =
        let P : Plan → Type 0 = Sets (kind.MakeMut h) es in
        walk.at_test P (λ _. tt) (it.strong == 1) _ _
        (λ _. walk.at_test P (λ _. tt) (it.weak == 0) _ _ (λ _ later n. tt) (λ _ later n. (n.events.0, (n.counted.0, (n.handles.0, tt)))))
        (λ _ later n. (n.counted.0, (n.handles.0, tt)))

    dropped_sets : (es : List Element) (h : ℕ) (x : Holding) → Sets (kind.Drop h) es (dropped h x)
    dropped_sets es h (holding.Slot s) = λ later n. (n.handles.0, tt)
    dropped_sets es h (holding.Bare fields) = λ later n. (n.handles.0, tt)

    swapped_sets : (es : List Element) (c from : ℕ) (to : Option ℕ) (it : Option Holding) (old s : Slot) → Sets (kind.CellSwap c from to) es (swapped label c from to it old s)
    swapped_sets es c from None it old s = λ later n. (n.handles.0, (n.cells.0, tt))
    swapped_sets es c from (Some to) it old s = walk.at_unheld (Sets (kind.CellSwap c from (Some to)) es) (λ _. tt) to it _ (λ _ later n. (n.handles.0, (n.cells.0, (n.handles.1.0, tt))))

    exchanged_sets : (es : List Element) (c expected desired : ℕ) (old e d : Slot) → Sets (kind.CellCas c expected desired) es (exchanged label c expected desired old e d)
    exchanged_sets es c expected desired old e d =
        walk.at_test (Sets (kind.CellCas c expected desired) es) (λ _. tt) (same_pointer old e) _ _
        (λ _ later n. (n.handles.1.0, (n.cells.0, tt))) (λ _ later n. (n.handles.0, (n.handles.1.0, tt)))

    set_sets : (es : List Element) (h i from : ℕ) (y : Holding) (owner : Option ℕ) (fields : List Slot) → Sets (kind.Set h i from) es (set_field label h i from y owner fields)
    set_sets es h i from y owner fields =
        let P : Plan → Type 0 = Sets (kind.Set h i from) es in
        walk.at_slot P (λ _. tt) from y _ (λ s _. walk.at_field P (λ _. tt) i (slice_get fields i) _
        (λ old _ later n. (n.handles.0, (write_within h owner fields i s later n.handles.1 n.counted, tt))))

    take_sets : (es : List Element) (h i to : ℕ) (it : Option Holding) (owner : Option ℕ) (fields : List Slot) → Sets (kind.Take h i to) es (take_field label h i to it owner fields)
    take_sets es h i to it owner fields =
        let P : Plan → Type 0 = Sets (kind.Take h i to) es in
        walk.at_field P (λ _. tt) i (slice_get fields i) _ (λ s _. walk.at_unheld P (λ _. tt) to it _
        (λ _ later n. (n.handles.0, (write_within h owner fields i Nothing later n.handles.1 n.counted, tt))))

    copy_sets : (es : List Element) (h i to : ℕ) (it : Option Holding) (owner : Option ℕ) (fields : List Slot) → Sets (kind.Get h i to) es (copy_field label i to it owner fields)
    copy_sets es h i to it owner fields =
        let P : Plan → Type 0 = Sets (kind.Get h i to) es in
        walk.at_field P (λ _. tt) i (slice_get fields i) _ (λ s _. walk.at_unheld P (λ _. tt) to it _ (λ _ later n. (n.handles.0, tt)))

    -- each row
    row_of_sets : (kd : Kind) (v : View) → Sets kd v.elements (row_of label id kd v)
    row_of_sets (kind.New to fields) v = new_sets to fields v.elements v.first
    row_of_sets (kind.NewCyclic to fields) v = cyclic_sets to fields v.elements v.first
    row_of_sets (kind.NewFrom from to) v =
        let P : Plan → Type 0 = Sets (kind.NewFrom from to) v.elements in
        walk.at_held P (λ _. tt) from v.first _ (λ x _. walk.at_bare P (λ _. tt) from x _ (λ fields _. walk.at_unheld P (λ _. tt) to v.second _
        (λ _ later n. (n.handles.0, (n.counted.0, (n.handles.1.0, tt))))))
    row_of_sets (kind.WeakNew to) v = walk.at_unheld (Sets (kind.WeakNew to) v.elements) (λ _. tt) to v.first _ (λ _ later n. (n.handles.0, tt))
    row_of_sets (kind.Null to) v = walk.at_unheld (Sets (kind.Null to) v.elements) (λ _. tt) to v.first _ (λ _ later n. (n.handles.0, tt))
    row_of_sets (kind.Clone from to) v =
        let P : Plan → Type 0 = Sets (kind.Clone from to) v.elements in
        walk.at_held P (λ _. tt) from v.first _ (λ x _. walk.at_slot P (λ _. tt) from x _ (λ s _. walk.at_unheld P (λ _. tt) to v.second _ (λ _ later n. (n.handles.0, tt))))
    row_of_sets (kind.Drop h) v = walk.at_held (Sets (kind.Drop h) v.elements) (λ _. tt) h v.first _ (λ x _. dropped_sets v.elements h x)
    row_of_sets (kind.Downgrade from to) v =
        let P : Plan → Type 0 = Sets (kind.Downgrade from to) v.elements in
        walk.at_held P (λ _. tt) from v.first _ (λ x _. walk.at_strong P (λ _. tt) from x _ (λ o _. walk.at_unheld P (λ _. tt) to v.second _ (λ _ later n. (n.handles.0, tt))))
    row_of_sets (kind.Upgrade from to) v =
        let P : Plan → Type 0 = Sets (kind.Upgrade from to) v.elements in
        walk.at_held P (λ _. tt) from v.first _ (λ x _. walk.at_weak P (λ _. tt) from x _
        (λ o _. walk.at_unheld P (λ _. tt) to v.second _ (λ _. upgraded_sets v.elements from to v.object.entry (Some o)))
        (walk.at_unheld P (λ _. tt) to v.second _ (λ _. upgraded_sets v.elements from to v.object.entry None)))
    row_of_sets (kind.TryUnwrap h) v =
        let P : Plan → Type 0 = Sets (kind.TryUnwrap h) v.elements in
        walk.at_held P (λ _. tt) h v.first _ (λ x _. walk.at_strong P (λ _. tt) h x _ (λ o _. walk.at_test P (λ _. tt) (v.object.strong == 1) _ _
        (λ _ later n. (n.events.0, (n.handles.0, tt))) (λ _ later n. tt)))
    row_of_sets (kind.IntoInner h) v =
        let P : Plan → Type 0 = Sets (kind.IntoInner h) v.elements in
        walk.at_held P (λ _. tt) h v.first _ (λ x _. walk.at_strong P (λ _. tt) h x _ (λ o _. walk.at_test P (λ _. tt) (v.object.strong == 1) _ _
        (λ _ later n. (n.events.0, (n.handles.0, tt))) (λ _ later n. (n.handles.0, tt))))
    row_of_sets (kind.GetMut h) v =
        let P : Plan → Type 0 = Sets (kind.GetMut h) v.elements in
        walk.at_held P (λ _. tt) h v.first _ (λ x _. walk.at_strong P (λ _. tt) h x _ (λ o _ later n. tt))
    row_of_sets (kind.MakeMut h) v =
        let P : Plan → Type 0 = Sets (kind.MakeMut h) v.elements in
        walk.at_held P (λ _. tt) h v.first _ (λ x _. walk.at_strong P (λ _. tt) h x _ (λ o _. unique_sets v.elements h o v.object))
    row_of_sets (kind.Counts h) v =
        let P : Plan → Type 0 = Sets (kind.Counts h) v.elements in
        walk.at_held P (λ _. tt) h v.first _ (λ x _. walk.at_counted P (λ _. tt) h x _ (λ o _ later n. tt) (λ o _ later n. tt) (λ later n. tt))
    row_of_sets (kind.PtrEq a b) v =
        let P : Plan → Type 0 = Sets (kind.PtrEq a b) v.elements in
        walk.at_held P (λ _. tt) a v.first _ (λ x _. walk.at_held P (λ _. tt) b v.second _ (λ y _.
        walk.at_strong P (λ _. tt) a x _ (λ o _. walk.at_strong P (λ _. tt) b y _ (λ p _ later n. tt))))
    row_of_sets (kind.Set h i from) v =
        let P : Plan → Type 0 = Sets (kind.Set h i from) v.elements in
        walk.at_held P (λ _. tt) h v.first _ (λ x _. walk.at_held P (λ _. tt) from v.second _ (λ y _. walk.at_fields P (λ _. tt) h x v.object.entry _
        (λ o _. set_sets v.elements h i from y (Some o) (fields_of v.object.entry)) (λ fields _. set_sets v.elements h i from y None fields)))
    row_of_sets (kind.Take h i to) v =
        let P : Plan → Type 0 = Sets (kind.Take h i to) v.elements in
        walk.at_held P (λ _. tt) h v.first _ (λ x _. walk.at_fields P (λ _. tt) h x v.object.entry _
        (λ o _. take_sets v.elements h i to v.second (Some o) (fields_of v.object.entry)) (λ fields _. take_sets v.elements h i to v.second None fields))
    row_of_sets (kind.Get h i to) v =
        let P : Plan → Type 0 = Sets (kind.Get h i to) v.elements in
        walk.at_held P (λ _. tt) h v.first _ (λ x _. walk.at_fields P (λ _. tt) h x v.object.entry _
        (λ o _. copy_sets v.elements h i to v.second (Some o) (fields_of v.object.entry)) (λ fields _. copy_sets v.elements h i to v.second None fields))
    row_of_sets (kind.CellNew c from) v =
        let P : Plan → Type 0 = Sets (kind.CellNew c from) v.elements in
        walk.at_held P (λ _. tt) from v.first _ (λ x _. walk.at_pointer P (λ _. tt) from x _ (λ s _ _. walk.at_absent_cell P (λ _. tt) c v.cell _ (λ _ later n. (n.handles.0, (n.cells.0, tt)))))
    row_of_sets (kind.CellLoad c to) v =
        let P : Plan → Type 0 = Sets (kind.CellLoad c to) v.elements in
        walk.at_cell P (λ _. tt) c v.cell _ (λ s _. walk.at_unheld P (λ _. tt) to v.first _ (λ _ later n. (n.handles.0, tt)))
    row_of_sets (kind.CellSwap c from to) v =
        let P : Plan → Type 0 = Sets (kind.CellSwap c from to) v.elements in
        walk.at_cell P (λ _. tt) c v.cell _ (λ old _. walk.at_held P (λ _. tt) from v.first _ (λ x _. walk.at_pointer P (λ _. tt) from x _ (λ s _ _.
        swapped_sets v.elements c from to v.second old s)))
    row_of_sets (kind.CellCas c expected desired) v =
        let P : Plan → Type 0 = Sets (kind.CellCas c expected desired) v.elements in
        walk.at_cell P (λ _. tt) c v.cell _ (λ old _. walk.at_held P (λ _. tt) expected v.first _ (λ x _. walk.at_held P (λ _. tt) desired v.second _ (λ y _.
        walk.at_pointer P (λ _. tt) expected x _ (λ e _ _. walk.at_pointer P (λ _. tt) desired y _ (λ d _ _. exchanged_sets v.elements c expected desired old e d)))))
    row_of_sets (kind.CellDrop c) v = walk.at_cell (Sets (kind.CellDrop c) v.elements) (λ _. tt) c v.cell _ (λ s _ later n. (n.cells.0, tt))
    row_of_sets kind.ScopeEnd v = λ later n. ending_within v.elements [] n.elements tt

  -- a handle that is named twice sets nothing
  row_sets : (op : Operation) (v : View) → Sets op.kind v.elements (row op v)
  row_sets op v = walk.at_repeated (Sets op.kind v.elements) (λ _. tt) (repeated op.kind) _ (λ _. row_of_sets op.thread op.id op.kind v)

  -- ---- the elements
  -- those of fields have the handles that the fields name
  fields_within : (m : State) (fs : List Field) → AreWithin k (map Handle (held_fields fs)) → ElementsWithin (elements_of m fs)
  fields_within m [] c = tt
  fields_within m (field.Held h ∷ fs) c = (c.0, fields_within m fs c.1)
  fields_within m (field.Null ∷ fs) c = fields_within m fs c
  fields_within m (field.Me ∷ fs) c = fields_within m fs c

  -- where an operation has fields it names them, but for the end of a scope
  named_fields : (scope : List ℕ) (kd : Kind) (owns : Bool) → (is_scope_end kd ≡ true → AreWithin k (map Handle (held_fields (members scope kd).fields)))
      → AreWithin k (map Handle (set_handles owns kd)) → AreWithin k (map Handle (held_fields (members scope kd).fields))
  named_fields scope (kind.New to fields) owns c d = d.1
  named_fields scope (kind.NewCyclic to fields) owns c d = d.1
  named_fields scope kind.ScopeEnd owns c d = c refl
  named_fields scope kd owns c d = tt

  -- they are in the footprint
  footprint_fields : (m : State) (op : Operation) → AreWithin k (footprint m op) → AreWithin k (map Handle (held_fields (members (scope_of op.thread m.scopes) op.kind).fields))
  unfolding footprint
  footprint_fields m op c =
      let a : Members = members (scope_of op.thread m.scopes) op.kind in
      within_front k (map Handle (held_fields a.fields)) _ (within_back k (map Handle (option_to_list a.second)) _ (within_back k (map Handle (option_to_list a.first)) _
      (within_front k _ _ (within_front k (member_keys m a) _ (within_back k (scope_keys op.thread op.kind) _ c)))))

  -- ---- an operation
  -- what a set has of the objects of two lists together it has of each
  objects_parts : (a b : List ℕ) → AreWithin k (map Object (a ++ b)) → AreWithin k (map Object a) × AreWithin k (map Object b)
  objects_parts [] b c = (tt, c)
  objects_parts (o ∷ a) b c = ((c.0, (objects_parts a b c.1).0), (objects_parts a b c.1).1)

  -- so of the objects of the plan's own event and of later ones
  events_parts : (event : Option Event) (es : List Event) → AreWithin k (map Object (map event_object (option_to_list event ++ es)))
      → AreWithin k (map Object (map event_object (option_to_list event))) × AreWithin k (map Object (map event_object es))
  events_parts None es c = (tt, c)
  events_parts (Some e) es c = ((c.0, tt), c.1)

  -- what a plan sets is named by the kind and the outcome
  plan_named : (m : State) (id : ℕ) (kd : Kind) (es : List Element) (p : Plan) → Sets kd es p → ((owns : Bool) → AreWithin k (map Handle (set_handles owns kd)) → ElementsWithin es)
      → AreWithin k (set_names kd (carried_out m id p).outcome) → AreWithin k (set_by_plan m p)
  plan_named m id kd es (Skip why) sets all c = tt
  plan_named m id kd es (Act answer changes event pending object) sets all c =
      let r = release (changed m changes) pending in
      let counts : Option Counts = counts_of r.state object in
      let owns : Bool = not (is_some counts) in
      let handles : AreWithin k (map Handle (set_handles owns kd)) = within_front k (map Handle (set_handles owns kd)) _ c in
      let rest = within_back k (map Handle (set_handles owns kd)) _ c in
      let cells : AreWithin k (map Cell (option_to_list (set_cell kd))) = within_front k (map Cell (option_to_list (set_cell kd))) _ rest in
      let objects = objects_parts (map event_object (option_to_list event ++ r.events)) (if sets_counted kd then counted counts else []) (within_back k (map Cell (option_to_list (set_cell kd))) _ rest) in
      let events = events_parts event r.events objects.0 in
      both k (map change_key changes) _ (sets r.state (record { elements = all owns handles; handles = handles; cells = cells; events = events.0; counted = objects.1 })) events.1

  -- so it is for an operation; for the end of a scope its footprint is asked
  step_named : (m : State) (op : Operation) → (is_scope_end op.kind ≡ true → AreWithin k (footprint m op)) → AreWithin k (set_names op.kind (step m op).outcome) → AreWithin k (set_by m op)
  unfolding step set_by
  step_named m op c =
      let v : View = view_of m op.thread op.kind in
      let a : Members = members (scope_of op.thread m.scopes) op.kind in
      plan_named m op.id op.kind v.elements (row op v) (row_sets op v)
      (λ owns d. fields_within m a.fields (named_fields (scope_of op.thread m.scopes) op.kind owns (λ e. footprint_fields m op (c e)) d))

-- and for operations in turn
pub sets_named : SetsAreNamed
sets_named k m [] c d = tt
sets_named k m (op ∷ ops) c d =
    both k (set_by m op) _
    (step_named k m op (λ e. within_front k (footprint m op) _ (d (or_left (is_scope_end op.kind) (end_scopes ops) e))) (within_front k (set_names op.kind (step m op).outcome) _ c))
    (sets_named k (step m op).state ops (within_back k (set_names op.kind (step m op).outcome) _ c)
    (λ e. within_back k (footprint m op) _ (d (or_right (is_scope_end op.kind) (end_scopes ops) e))))

-- ---- what is touched
module _ (k : Key → Bool) where
  -- the events of two lists together are of objects of the set where those of each are
  events_both : (xs ys : List Event) → AreEventsOf k xs → AreEventsOf k ys → AreEventsOf k (xs ++ ys)
  events_both [] ys c d = d
  events_both (x ∷ xs) ys c d = (c.0, events_both xs ys c.1 d)

  -- what an item brings about tells of the object that it names
  fate_events : (m : State) (xs : List Item) (f : Fate) → IsOf k f → AreEventsOf k (left_by m xs f).events
  fate_events m xs Stays c = tt
  fate_events m xs (Falls o fields) c = (c, tt)
  fate_events m xs (Goes o) c = (c, tt)

  -- so does a cascade, with any fuel
  within_events : (n : ℕ) (m : State) (p : List Item) → AreWithin k (flat_map item_keys (taken_within n m p)) → AreEventsOf k (release_within n m p).events
  within_events n m [] c = tt
  within_events zero m (x ∷ xs) c = tt
  within_events (suc n) m (x ∷ xs) c =
      let d = drop_first m x xs in
      events_both d.events _ (fate_events m xs (fate m x xs) (fate_of k m x xs (within_front k (item_keys x) _ c)))
      (within_events n d.state d.pending (within_back k (item_keys x) _ c))

  release_events : (m : State) (p : List Item) → AreWithin k (flat_map item_keys (taken m p)) → AreEventsOf k (release m p).events
  unfolding release taken
  release_events m p c = within_events (work m p) m p c

  -- a plan sets places that it touches
  plan_touched : (m : State) (p : Plan) → AreWithin k (plan_keys m p) → AreWithin k (set_by_plan m p)
  plan_touched m (Skip why) c = tt
  plan_touched m (Act answer changes event pending object) c =
      both k (map change_key changes) _ (within_front k (map change_key changes) _ c)
      (release_events (changed m changes) pending (within_front k (flat_map item_keys (taken (changed m changes) pending)) _ (within_back k (map change_key changes) _ c)))

  step_touched : (m : State) (op : Operation) → AreWithin k (footprint m op) → AreWithin k (set_by m op)
  unfolding set_by footprint
  step_touched m op c =
      plan_touched m (row op (view_of m op.thread op.kind))
      (within_back k (member_keys m (members (scope_of op.thread m.scopes) op.kind)) _ (within_back k (scope_keys op.thread op.kind) _ c))

pub sets_touched : SetsAreTouched
sets_touched k m [] c = tt
sets_touched k m (op ∷ ops) c =
    both k (set_by m op) _ (step_touched k m op (within_front k (footprint m op) _ c)) (sets_touched k (step m op).state ops (within_back k (footprint m op) _ c))
