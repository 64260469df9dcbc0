-- What an outcome doesn't tell of stands as before: an object that no change of a row sets, and that no event of a release tells.
use Rattle.std.proofs.Common.{◌≡◌, ℕ, zero, suc, List, [], ◌∷◌, ◌++◌, map, refl, ap, ◌∙◌, sym, Bool, true, false}
use Rattle.std.proofs.lemmas.List.{map-append}
use Rattle.std.specs.Prelude.{Option, Some, None, option_to_list, ◌==◌, ◌||◌, slice_get}
use Rattle.std.specs.FinMap.{get}
use Rattle.trace_types.specs.declared.slots.Slot.{Slot}
use Rattle.trace_types.specs.declared.slots.Slot.TheVariants.{Nothing}
use Rattle.trace_types.specs.declared.slots.Holding.{Holding}
use Rattle.trace_types.specs.declared.slots.Holding.TheVariants as holding
use Rattle.trace_types.specs.declared.slots.Entry.{Entry}
use Rattle.trace_types.specs.declared.slots.Entry.TheVariants.{Alive, Husk}
use Rattle.trace_types.specs.declared.slots.Item.{Item}
use Rattle.trace_types.specs.declared.slots.Change.{Change}
use Rattle.trace_types.specs.declared.slots.Change.TheVariants.{SetHandle, EndHandle, SetCell, EndCell, SetField, Make, TurnHusk}
use Rattle.trace_types.specs.declared.kinds.Kind.{Kind}
use Rattle.trace_types.specs.declared.kinds.Kind.TheVariants as kind
use Rattle.trace_types.specs.declared.outcomes.Event.{Event}
use Rattle.trace_types.specs.Operation.{Operation}
use Rattle.ownership_model.specs.declared.plan.Plan.{Plan}
use Rattle.ownership_model.specs.declared.plan.Plan.TheVariants.{Skip, Act}
use Rattle.ownership_model.specs.State.{State, is_alive}
use Rattle.ownership_model.specs.Changes.{changed, changed_by, with_field}
use Rattle.ownership_model.specs.Release.{Fate, Stays, Falls, Goes, fate, left_by, drop_first, release, release_within, work}
use Rattle.ownership_model.specs.View.{Element, Read, Null, Me, Seen, View, view_of, repeated}
use Rattle.ownership_model.specs.Table.{row, row_of, new_row, upgraded, made_unique, dropped, swapped, exchanged, write_field, set_field, take_field, copy_field, fields_of, made_fields, ending, first_unheld, first_bare, same_pointer, make}
use Rattle.ownership_model.specs.Step.{step, carried_out, counts_of, outcomes_from, end_from}
use Rattle.ownership_model.specs.Reach.{has}
use Rattle.ownership_model.specs.Touched.{event_object, counted, touched_by, touched_in, AgreeOutside}
use Rattle.ownership_model.proofs.Twins.{IfThere}
use Rattle.ownership_model.proofs.Searching.{has-append}
use Rattle.ownership_model.proofs.CountLemmas.{get_set_other, get_cut_other}
use Rattle.ownership_model.proofs.WalkLemmas as walk

neither : (a b : Bool) → (a || b) ≡ false → (a ≡ false) × (b ≡ false)
neither true b h = absurd cc
neither false b h = (refl, h)

-- what is in neither part of a list
in_neither : (q : ℕ) (xs ys : List ℕ) → has q (xs ++ ys) ≡ false → (has q xs ≡ false) × (has q ys ≡ false)
in_neither q xs ys h = neither (has q xs) (has q ys) (sym (has-append q xs ys) ∙ h)

-- q is the object that isn't told
module _ (q : ℕ) where
  abbrev pub Other : ℕ → Type 0
  Other o = (o == q) ≡ false

  -- the change sets another object, or none
  abbrev pub Spares : Change → Type 0
  Spares (SetHandle t h held) = Unit {0}
  Spares (EndHandle h) = Unit {0}
  Spares (SetCell c s) = Unit {0}
  Spares (EndCell c) = Unit {0}
  Spares (SetField o i s) = Other o
  Spares (Make o fields) = Other o
  Spares (TurnHusk o) = Other o

  abbrev pub AllSpare : List Change → Type 0
  AllSpare [] = Unit {0}
  AllSpare (c ∷ cs) = Spares c × AllSpare cs

  change_spares : (m : State) (c : Change) → Spares c → get (changed_by m c).objects q ≡ get m.objects q
  change_spares m (SetHandle t h held) s = refl
  change_spares m (EndHandle h) s = refl
  change_spares m (SetCell c x) s = refl
  change_spares m (EndCell c) s = refl
  change_spares m (SetField o i x) s = get_set_other m.objects o (with_field (get m.objects o) i x) q s
  change_spares m (Make o fields) s = get_set_other m.objects o (Alive fields) q s
  change_spares m (TurnHusk o) s = get_set_other m.objects o Husk q s

  changes_spare : (m : State) (cs : List Change) → AllSpare cs → get (changed m cs).objects q ≡ get m.objects q
  changes_spare m [] s = refl
  changes_spare m (c ∷ cs) s = changes_spare (changed_by m c) cs s.1 ∙ change_spares m c s.0

  -- the drop of one item
  left_spares : (m : State) (rest : List Item) (f : Fate) → has q (map event_object (left_by m rest f).events) ≡ false → get (left_by m rest f).state.objects q ≡ get m.objects q
  left_spares m rest Stays h = refl
  left_spares m rest (Falls o fields) h = get_set_other m.objects o Husk q (neither (o == q) false h).0
  left_spares m rest (Goes o) h = get_cut_other m.objects o q (neither (o == q) false h).0

  within_spares : (n : ℕ) (m : State) (pending : List Item) → has q (map event_object (release_within n m pending).events) ≡ false → get (release_within n m pending).state.objects q ≡ get m.objects q
  within_spares n m [] h = refl
  within_spares zero m (x ∷ xs) h = refl
  within_spares (suc n) m (x ∷ xs) h =
      let d = drop_first m x xs in
      let p = in_neither q (map event_object d.events) (map event_object (release_within n d.state d.pending).events)
      (ap (has q) (sym (map-append event_object d.events (release_within n d.state d.pending).events)) ∙ h) in
      within_spares n d.state d.pending p.1 ∙ left_spares m xs (fate m x xs) p.0

  release_spares : (m : State) (pending : List Item) → has q (map event_object (release m pending).events) ≡ false → get (release m pending).state.objects q ≡ get m.objects q
  unfolding release
  release_spares m pending h = within_spares (work m pending) m pending h

  -- Of a plan: where its object and its event tell of others, its changes set others.
  abbrev pub PlanSpares : Plan → Type 0
  PlanSpares (Skip why) = Unit {0}
  PlanSpares (Act answer changes event pending object) = IfThere Other object → IfThere (λ e. Other (event_object e)) event → AllSpare changes

  event_apart : (e : Option Event) (es : List Event) → has q (map event_object (option_to_list e ++ es)) ≡ false → IfThere (λ x. Other (event_object x)) e × (has q (map event_object es) ≡ false)
  event_apart None es h = (tt, h)
  event_apart (Some e) es h = neither (event_object e == q) (has q (map event_object es)) h

  object_apart : (m : State) (o : Option ℕ) → has q (counted (counts_of m o)) ≡ false → IfThere Other o
  object_apart m None h = tt
  object_apart m (Some o) h = (neither (o == q) false h).0

  carried_spares : (m : State) (id : ℕ) (p : Plan) → PlanSpares p → has q (touched_by (carried_out m id p).outcome) ≡ false → get m.objects q ≡ get (carried_out m id p).state.objects q
  carried_spares m id (Skip why) s h = refl
  carried_spares m id (Act answer changes event pending object) s h =
      let r = release (changed m changes) pending in
      let told = in_neither q (map event_object (option_to_list event ++ r.events)) (counted (counts_of r.state object)) (neither (id == q) _ h).1 in
      let events = event_apart event r.events told.0 in
      sym (release_spares (changed m changes) pending events.1 ∙ changes_spare m changes (s (object_apart r.state object told.1) events.0))

-- The rows: q is not the number of the operation itself.
module _ (q label id : ℕ) (new : (id == q) ≡ false) where
  abbrev Fine : Plan → Type 0
  Fine p = PlanSpares q p

  ending_spares : (es : List Element) (cs : List Change) → AllSpare q cs → AllSpare q (ending es cs)
  ending_spares [] cs s = s
  ending_spares (Read h x ∷ es) cs s = (tt, ending_spares es cs s)
  ending_spares (Null ∷ es) cs s = ending_spares es cs s
  ending_spares (Me ∷ es) cs s = ending_spares es cs s

  write_spares : (h : ℕ) (owner : Option ℕ) (fields : List Slot) (i : ℕ) (s : Slot) → IfThere (Other q) owner → Spares q (write_field label h owner fields i s)
  write_spares h None fields i s a = tt
  write_spares h (Some o) fields i s a = a

  new_spares : (to : ℕ) (es : List Element) (it : Option Holding) → Fine (new_row label id to es it)
  new_spares to es it =
      walk.at_all_held Fine (λ _. tt) (first_unheld es) _ (λ _. walk.at_all_slots Fine (λ _. tt) (first_bare es) _ (λ _. walk.at_unheld Fine (λ _. tt) to it _
      (λ _ told event. ending_spares es (make label id (made_fields id es) to) (new, (tt, tt)))))

  upgraded_spares : (to : ℕ) (e : Option Entry) (o : Option ℕ) → Fine (upgraded label to e o)
  upgraded_spares to e None = λ told event. (tt, tt)
  upgraded_spares to e (Some o) = walk.at_test Fine (λ _. tt) (is_alive e) _ _ (λ _ told event. (tt, tt)) (λ _ told event. (tt, tt))

  unique_spares : (h o : ℕ) (it : Seen) → Fine (made_unique label id h o it)
  unique_spares h o it =
      walk.at_test Fine (λ _. tt) (it.strong == 1) _ _
      (λ _. walk.at_test Fine (λ _. tt) (it.weak == 0) _ _ (λ _ told event. tt) (λ _ told event. (event, (new, (tt, tt)))))
      (λ _ told event. (new, (tt, tt)))

  dropped_spares : (h : ℕ) (x : Holding) → Fine (dropped h x)
  dropped_spares h (holding.Slot s) = λ told event. (tt, tt)
  dropped_spares h (holding.Bare fields) = λ told event. (tt, tt)

  swapped_spares : (c from : ℕ) (to : Option ℕ) (it : Option Holding) (old s : Slot) → Fine (swapped label c from to it old s)
  swapped_spares c from None it old s = λ told event. (tt, (tt, tt))
  swapped_spares c from (Some to) it old s = walk.at_unheld Fine (λ _. tt) to it _ (λ _ told event. (tt, (tt, (tt, tt))))

  exchanged_spares : (c expected desired : ℕ) (old e d : Slot) → Fine (exchanged label c expected desired old e d)
  exchanged_spares c expected desired old e d =
      walk.at_test Fine (λ _. tt) (same_pointer old e) _ _ (λ _ told event. (tt, (tt, tt))) (λ _ told event. (tt, (tt, tt)))

  set_spares : (h i from : ℕ) (y : Holding) (owner : Option ℕ) (fields : List Slot) → Fine (set_field label h i from y owner fields)
  set_spares h i from y owner fields =
      walk.at_slot Fine (λ _. tt) from y _ (λ s was. walk.at_field Fine (λ _. tt) i (slice_get fields i) _ (λ old got told event. (tt, (write_spares h owner fields i s told, tt))))

  take_spares : (h i to : ℕ) (it : Option Holding) (owner : Option ℕ) (fields : List Slot) → Fine (take_field label h i to it owner fields)
  take_spares h i to it owner fields =
      walk.at_field Fine (λ _. tt) i (slice_get fields i) _ (λ s got. walk.at_unheld Fine (λ _. tt) to it _ (λ _ told event. (tt, (write_spares h owner fields i Nothing told, tt))))

  copy_spares : (i to : ℕ) (it : Option Holding) (owner : Option ℕ) (fields : List Slot) → Fine (copy_field label i to it owner fields)
  copy_spares i to it owner fields =
      walk.at_field Fine (λ _. tt) i (slice_get fields i) _ (λ s got. walk.at_unheld Fine (λ _. tt) to it _ (λ _ told event. (tt, tt)))

  row_of_spares : (k : Kind) (v : View) → Fine (row_of label id k v)
  row_of_spares (kind.New to fields) v = new_spares to v.elements v.first
  row_of_spares (kind.NewCyclic to fields) v = new_spares to v.elements v.first
  row_of_spares (kind.NewFrom from to) v =
      walk.at_held Fine (λ _. tt) from v.first _ (λ x is. walk.at_bare Fine (λ _. tt) from x _ (λ fields was. walk.at_unheld Fine (λ _. tt) to v.second _ (λ _ told event. (tt, (new, (tt, tt))))))
  row_of_spares (kind.WeakNew to) v = walk.at_unheld Fine (λ _. tt) to v.first _ (λ _ told event. (tt, tt))
  row_of_spares (kind.Null to) v = walk.at_unheld Fine (λ _. tt) to v.first _ (λ _ told event. (tt, tt))
  row_of_spares (kind.Clone from to) v =
      walk.at_held Fine (λ _. tt) from v.first _ (λ x is. walk.at_slot Fine (λ _. tt) from x _ (λ s was. walk.at_unheld Fine (λ _. tt) to v.second _ (λ _ told event. (tt, tt))))
  row_of_spares (kind.Drop h) v = walk.at_held Fine (λ _. tt) h v.first _ (λ x is. dropped_spares h x)
  row_of_spares (kind.Downgrade from to) v =
      walk.at_held Fine (λ _. tt) from v.first _ (λ x is. walk.at_strong Fine (λ _. tt) from x _ (λ o was. walk.at_unheld Fine (λ _. tt) to v.second _ (λ _ told event. (tt, tt))))
  row_of_spares (kind.Upgrade from to) v =
      walk.at_held Fine (λ _. tt) from v.first _ (λ x is. walk.at_weak Fine (λ _. tt) from x _
      (λ o was. walk.at_unheld Fine (λ _. tt) to v.second _ (λ _. upgraded_spares to v.object.entry (Some o)))
      (walk.at_unheld Fine (λ _. tt) to v.second _ (λ _. upgraded_spares to v.object.entry None)))
  row_of_spares (kind.TryUnwrap h) v =
      walk.at_held Fine (λ _. tt) h v.first _ (λ x is. walk.at_strong Fine (λ _. tt) h x _ (λ o was.
      walk.at_test Fine (λ _. tt) (v.object.strong == 1) _ _ (λ _ told event. (told, (tt, tt))) (λ _ told event. tt)))
  row_of_spares (kind.IntoInner h) v =
      walk.at_held Fine (λ _. tt) h v.first _ (λ x is. walk.at_strong Fine (λ _. tt) h x _ (λ o was.
      walk.at_test Fine (λ _. tt) (v.object.strong == 1) _ _ (λ _ told event. (told, (tt, tt))) (λ _ told event. (tt, tt))))
  row_of_spares (kind.GetMut h) v = walk.at_held Fine (λ _. tt) h v.first _ (λ x is. walk.at_strong Fine (λ _. tt) h x _ (λ o was told event. tt))
  row_of_spares (kind.MakeMut h) v = walk.at_held Fine (λ _. tt) h v.first _ (λ x is. walk.at_strong Fine (λ _. tt) h x _ (λ o was. unique_spares h o v.object))
  row_of_spares (kind.Counts h) v =
      walk.at_held Fine (λ _. tt) h v.first _ (λ x is. walk.at_counted Fine (λ _. tt) h x _ (λ o was told event. tt) (λ o was told event. tt) (λ told event. tt))
  row_of_spares (kind.PtrEq a b) v =
      walk.at_held Fine (λ _. tt) a v.first _ (λ x is. walk.at_held Fine (λ _. tt) b v.second _ (λ y is_too.
      walk.at_strong Fine (λ _. tt) a x _ (λ o was. walk.at_strong Fine (λ _. tt) b y _ (λ p _ told event. tt))))
  row_of_spares (kind.Set h i from) v =
      walk.at_held Fine (λ _. tt) h v.first _ (λ x is. walk.at_held Fine (λ _. tt) from v.second _ (λ y is_too. walk.at_fields Fine (λ _. tt) h x v.object.entry _
      (λ o was. set_spares h i from y (Some o) (fields_of v.object.entry)) (λ fields was. set_spares h i from y None fields)))
  row_of_spares (kind.Take h i to) v =
      walk.at_held Fine (λ _. tt) h v.first _ (λ x is. walk.at_fields Fine (λ _. tt) h x v.object.entry _
      (λ o was. take_spares h i to v.second (Some o) (fields_of v.object.entry)) (λ fields was. take_spares h i to v.second None fields))
  row_of_spares (kind.Get h i to) v =
      walk.at_held Fine (λ _. tt) h v.first _ (λ x is. walk.at_fields Fine (λ _. tt) h x v.object.entry _
      (λ o was. copy_spares i to v.second (Some o) (fields_of v.object.entry)) (λ fields was. copy_spares i to v.second None fields))
  row_of_spares (kind.CellNew c from) v =
      walk.at_held Fine (λ _. tt) from v.first _ (λ x is. walk.at_pointer Fine (λ _. tt) from x _ (λ s was _. walk.at_absent_cell Fine (λ _. tt) c v.cell _ (λ _ told event. (tt, (tt, tt)))))
  row_of_spares (kind.CellLoad c to) v = walk.at_cell Fine (λ _. tt) c v.cell _ (λ s is. walk.at_unheld Fine (λ _. tt) to v.first _ (λ _ told event. (tt, tt)))
  row_of_spares (kind.CellSwap c from to) v =
      walk.at_cell Fine (λ _. tt) c v.cell _ (λ old had. walk.at_held Fine (λ _. tt) from v.first _ (λ x is. walk.at_pointer Fine (λ _. tt) from x _ (λ s was _. swapped_spares c from to v.second old s)))
  row_of_spares (kind.CellCas c expected desired) v =
      walk.at_cell Fine (λ _. tt) c v.cell _ (λ old had. walk.at_held Fine (λ _. tt) expected v.first _ (λ x is. walk.at_held Fine (λ _. tt) desired v.second _ (λ y is_too.
      walk.at_pointer Fine (λ _. tt) expected x _ (λ e was _. walk.at_pointer Fine (λ _. tt) desired y _ (λ d was_too _. exchanged_spares c expected desired old e d)))))
  row_of_spares (kind.CellDrop c) v = walk.at_cell Fine (λ _. tt) c v.cell _ (λ s is told event. (tt, tt))
  row_of_spares kind.ScopeEnd v = λ told event. ending_spares v.elements [] tt

own_number : (q : ℕ) (m : State) (id : ℕ) (p : Plan) → has q (touched_by (carried_out m id p).outcome) ≡ false → (id == q) ≡ false
own_number q m id (Skip why) h = (neither (id == q) _ h).0
own_number q m id (Act answer changes event pending object) h = (neither (id == q) _ h).0

-- one operation
pub step_outside : (m : State) (op : Operation) → AgreeOutside (touched_by (step m op).outcome) m (step m op).state
unfolding step
step_outside m op q h =
    let p = row op (view_of m op.thread op.kind) in
    let new = own_number q m op.id p h in
    carried_spares q m op.id p
    (walk.at_repeated (PlanSpares q) (λ _. tt) (repeated op.kind) _ (λ _. row_of_spares q op.thread op.id new op.kind (view_of m op.thread op.kind))) h

-- and all of them
pub end_outside : (ops : List Operation) (m : State) → AgreeOutside (touched_in (outcomes_from m ops)) m (end_from m ops)
end_outside [] m q h = refl
end_outside (op ∷ ops) m q h =
    let p = in_neither q (touched_by (step m op).outcome) (touched_in (outcomes_from (step m op).state ops)) h in
    step_outside m op q p.0 ∙ end_outside ops (step m op).state q p.1
