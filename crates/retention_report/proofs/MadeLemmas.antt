-- What is there at the end of a trace was made by an operation whose outcome tells so: a row of the table makes an object only where it
-- answers that it made, cloned or moved one.
use Rattle.std.proofs.Common.{◌≡◌, ℕ, List, [], ◌∷◌, refl, sym, ap, ◌∙◌, subst, Bool, true, false}
use Rattle.std.specs.Prelude.{Option, Some, None, ◌==◌, is_some, slice_get, ◌&&◌, if◌then◌else◌, IsTrue}
use Rattle.std.specs.FinMap.{get, get-empty}
use Rattle.std.specs.Ordering.{nat_cmp}
use Rattle.std.specs.BTreeSet.{insert_key}
use Rattle.trace_types.specs.declared.slots.Slot.{Slot}
use Rattle.trace_types.specs.declared.slots.Slot.TheVariants.{Nothing}
use Rattle.trace_types.specs.declared.slots.Holding.{Holding}
use Rattle.trace_types.specs.declared.slots.Holding.TheVariants as holding
use Rattle.trace_types.specs.declared.slots.Entry.{Entry}
use Rattle.trace_types.specs.declared.slots.Entry.TheVariants.{Husk}
use Rattle.trace_types.specs.declared.slots.Change.{Change}
use Rattle.trace_types.specs.declared.slots.Change.TheVariants.{SetHandle, EndHandle, SetCell, EndCell, SetField, Make, TurnHusk}
use Rattle.trace_types.specs.declared.kinds.Kind.{Kind}
use Rattle.trace_types.specs.declared.kinds.Kind.TheVariants as kind
use Rattle.trace_types.specs.declared.outcomes.Answer.{Answer}
use Rattle.trace_types.specs.declared.outcomes.Answer.TheVariants as answer
use Rattle.trace_types.specs.declared.outcomes.Verdict.TheVariants.{Did}
use Rattle.trace_types.specs.declared.outcomes.Outcome.{Outcome}
use Rattle.trace_types.specs.Operation.{Operation}
use Rattle.ownership_model.specs.declared.plan.Plan.{Plan}
use Rattle.ownership_model.specs.declared.plan.Plan.TheVariants.{Skip, Act}
use Rattle.ownership_model.specs.View.{Element, Read, Null, Me, Seen, View, repeated, view_of}
use Rattle.ownership_model.specs.State.{State, is_alive, IsSound, nothing_held}
use Rattle.ownership_model.specs.Reach.{has}
use Rattle.ownership_model.specs.Changes.{changed, changed_by, with_field, HasField, CanChange}
use Rattle.ownership_model.specs.Carry.{IsCarriable}
use Rattle.ownership_model.specs.Release.{release}
use Rattle.ownership_model.specs.Cascade.{times_destroyed, times_freed, Course}
use Rattle.ownership_model.specs.Falling.{CascadesTo}
use Rattle.ownership_model.specs.Step.{step, carried_out, AreNew, outcomes_from, end_from}
use Rattle.ownership_model.specs.Table.{row, row_of, new_row, upgraded, made_unique, dropped, swapped, exchanged, write_field, set_field, take_field, copy_field, fields_of, ending, first_unheld, first_bare, same_pointer, yes_if}
use Rattle.ownership_model.proofs.WalkLemmas as walk
use Rattle.ownership_model.proofs.LawsHold as model
use Rattle.ownership_model.proofs.CountLemmas.{get_set_other, same_number}
use Rattle.ownership_model.proofs.NewLemmas.{step_absent}
use Rattle.ownership_model.proofs.CarryLemmas.{step_sound}
use Rattle.leak_report.specs.Lives.{is_making, with_made, made_after}
use Rattle.retention_report.proofs.RisingLemmas.{has_inserted, has_kept}

-- none of the changes makes an object
abbrev pub MakeNone : List Change → Type 0
MakeNone [] = Unit {0}
MakeNone (SetHandle t h x ∷ cs) = MakeNone cs
MakeNone (EndHandle h ∷ cs) = MakeNone cs
MakeNone (SetCell c s ∷ cs) = MakeNone cs
MakeNone (EndCell c ∷ cs) = MakeNone cs
MakeNone (SetField o i s ∷ cs) = MakeNone cs
MakeNone (Make o fields ∷ cs) = ⊥
MakeNone (TurnHusk o ∷ cs) = MakeNone cs

-- where the answer doesn't say that an object was made, none is
abbrev pub IsTold : Answer → List Change → Type 0
IsTold answer.Made cs = Unit {0}
IsTold answer.Cloned cs = Unit {0}
IsTold answer.Moved cs = Unit {0}
IsTold answer.Done cs = MakeNone cs
IsTold answer.Yes cs = MakeNone cs
IsTold answer.No cs = MakeNone cs
IsTold answer.Unique cs = MakeNone cs

abbrev pub Tells : Plan → Type 0
Tells (Skip reason) = Unit {0}
Tells (Act answer changes event pending object) = IsTold answer changes

ending_none : (es : List Element) → MakeNone (ending es [])
ending_none [] = tt
ending_none (Read h x ∷ es) = ending_none es
ending_none (Null ∷ es) = ending_none es
ending_none (Me ∷ es) = ending_none es

write_none : (label h : ℕ) (owner : Option ℕ) (fields : List Slot) (i : ℕ) (s : Slot) → MakeNone (write_field label h owner fields i s ∷ [])
write_none label h (Some o) fields i s = tt
write_none label h None fields i s = tt

yes_told : (b : Bool) → IsTold (yes_if b) []
yes_told true = tt
yes_told false = tt

module _ (label id : ℕ) where
  new_tells : (to : ℕ) (es : List Element) (it : Option Holding) → Tells (new_row label id to es it)
  new_tells to es it =
      walk.at_all_held Tells (λ _. tt) (first_unheld es) _ (λ _. walk.at_all_slots Tells (λ _. tt) (first_bare es) _ (λ _. walk.at_unheld Tells (λ _. tt) to it _ (λ _. tt)))

  upgraded_tells : (to : ℕ) (e : Option Entry) (o : ℕ) → Tells (upgraded label to e (Some o))
  upgraded_tells to e o = walk.at_test Tells (λ _. tt) (is_alive e) _ _ (λ _. tt) (λ _. tt)

  unique_tells : (h o : ℕ) (it : Seen) → Tells (made_unique label id h o it)
  unique_tells h o it =
      walk.at_test Tells (λ _. tt) (it.strong == 1) _ _ (λ _. walk.at_test Tells (λ _. tt) (it.weak == 0) _ _ (λ _. tt) (λ _. tt)) (λ _. tt)

  dropped_tells : (h : ℕ) (x : Holding) → Tells (dropped h x)
  dropped_tells h (holding.Slot s) = tt
  dropped_tells h (holding.Bare fields) = tt

  swapped_tells : (c from : ℕ) (to : Option ℕ) (it : Option Holding) (old s : Slot) → Tells (swapped label c from to it old s)
  swapped_tells c from None it old s = tt
  swapped_tells c from (Some to) it old s = walk.at_unheld Tells (λ _. tt) to it _ (λ _. tt)

  exchanged_tells : (c expected desired : ℕ) (old e d : Slot) → Tells (exchanged label c expected desired old e d)
  exchanged_tells c expected desired old e d = walk.at_test Tells (λ _. tt) (same_pointer old e) _ _ (λ _. tt) (λ _. tt)

  set_tells : (h i from : ℕ) (y : Holding) (owner : Option ℕ) (fields : List Slot) → Tells (set_field label h i from y owner fields)
  set_tells h i from y owner fields =
      walk.at_slot Tells (λ _. tt) from y _ (λ s was. walk.at_field Tells (λ _. tt) i (slice_get fields i) _ (λ old got. write_none label h owner fields i s))

  take_tells : (h i to : ℕ) (it : Option Holding) (owner : Option ℕ) (fields : List Slot) → Tells (take_field label h i to it owner fields)
  take_tells h i to it owner fields =
      walk.at_field Tells (λ _. tt) i (slice_get fields i) _ (λ s got. walk.at_unheld Tells (λ _. tt) to it _ (λ _. write_none label h owner fields i Nothing))

  copy_tells : (i to : ℕ) (it : Option Holding) (owner : Option ℕ) (fields : List Slot) → Tells (copy_field label i to it owner fields)
  copy_tells i to it owner fields = walk.at_field Tells (λ _. tt) i (slice_get fields i) _ (λ s got. walk.at_unheld Tells (λ _. tt) to it _ (λ _. tt))

  row_of_tells : (k : Kind) (v : View) → Tells (row_of label id k v)
  row_of_tells (kind.New to fields) v = new_tells to v.elements v.first
  row_of_tells (kind.NewCyclic to fields) v = new_tells to v.elements v.first
  row_of_tells (kind.NewFrom from to) v =
      walk.at_held Tells (λ _. tt) from v.first _ (λ x is. walk.at_bare Tells (λ _. tt) from x _ (λ fields was. walk.at_unheld Tells (λ _. tt) to v.second _ (λ _. tt)))
  row_of_tells (kind.WeakNew to) v = walk.at_unheld Tells (λ _. tt) to v.first _ (λ _. tt)
  row_of_tells (kind.Null to) v = walk.at_unheld Tells (λ _. tt) to v.first _ (λ _. tt)
  row_of_tells (kind.Clone from to) v =
      walk.at_held Tells (λ _. tt) from v.first _ (λ x is. walk.at_slot Tells (λ _. tt) from x _ (λ s was. walk.at_unheld Tells (λ _. tt) to v.second _ (λ _. tt)))
  row_of_tells (kind.Drop h) v = walk.at_held Tells (λ _. tt) h v.first _ (λ x is. dropped_tells h x)
  row_of_tells (kind.Downgrade from to) v =
      walk.at_held Tells (λ _. tt) from v.first _ (λ x is. walk.at_strong Tells (λ _. tt) from x _ (λ o was. walk.at_unheld Tells (λ _. tt) to v.second _ (λ _. tt)))
  row_of_tells (kind.Upgrade from to) v =
      walk.at_held Tells (λ _. tt) from v.first _ (λ x is. walk.at_weak Tells (λ _. tt) from x _
      (λ o was. walk.at_unheld Tells (λ _. tt) to v.second _ (λ _. upgraded_tells to v.object.entry o))
      (walk.at_unheld Tells (λ _. tt) to v.second _ (λ _. tt)))
  row_of_tells (kind.TryUnwrap h) v =
      walk.at_held Tells (λ _. tt) h v.first _ (λ x is. walk.at_strong Tells (λ _. tt) h x _ (λ o was.
      walk.at_test Tells (λ _. tt) (v.object.strong == 1) _ _ (λ _. tt) (λ _. tt)))
  row_of_tells (kind.IntoInner h) v =
      walk.at_held Tells (λ _. tt) h v.first _ (λ x is. walk.at_strong Tells (λ _. tt) h x _ (λ o was.
      walk.at_test Tells (λ _. tt) (v.object.strong == 1) _ _ (λ _. tt) (λ _. tt)))
  row_of_tells (kind.GetMut h) v =
      walk.at_held Tells (λ _. tt) h v.first _ (λ x is. walk.at_strong Tells (λ _. tt) h x _ (λ o was. yes_told (v.object.strong == 1 && (v.object.weak == 0))))
  row_of_tells (kind.MakeMut h) v =
      walk.at_held Tells (λ _. tt) h v.first _ (λ x is. walk.at_strong Tells (λ _. tt) h x _ (λ o was. unique_tells h o v.object))
  row_of_tells (kind.Counts h) v =
      walk.at_held Tells (λ _. tt) h v.first _ (λ x is. walk.at_counted Tells (λ _. tt) h x _ (λ o was. tt) (λ o was. tt) tt)
  row_of_tells (kind.PtrEq a b) v =
      walk.at_held Tells (λ _. tt) a v.first _ (λ x is. walk.at_held Tells (λ _. tt) b v.second _ (λ y is_too.
      walk.at_strong Tells (λ _. tt) a x _ (λ o was. walk.at_strong Tells (λ _. tt) b y _ (λ p _. yes_told (o == p)))))
  row_of_tells (kind.Set h i from) v =
      walk.at_held Tells (λ _. tt) h v.first _ (λ x is. walk.at_held Tells (λ _. tt) from v.second _ (λ y is_too. walk.at_fields Tells (λ _. tt) h x v.object.entry _
      (λ o was. set_tells h i from y (Some o) (fields_of v.object.entry))
      (λ fields was. set_tells h i from y None fields)))
  row_of_tells (kind.Take h i to) v =
      walk.at_held Tells (λ _. tt) h v.first _ (λ x is. walk.at_fields Tells (λ _. tt) h x v.object.entry _
      (λ o was. take_tells h i to v.second (Some o) (fields_of v.object.entry))
      (λ fields was. take_tells h i to v.second None fields))
  row_of_tells (kind.Get h i to) v =
      walk.at_held Tells (λ _. tt) h v.first _ (λ x is. walk.at_fields Tells (λ _. tt) h x v.object.entry _
      (λ o was. copy_tells i to v.second (Some o) (fields_of v.object.entry))
      (λ fields was. copy_tells i to v.second None fields))
  row_of_tells (kind.CellNew k from) v =
      walk.at_held Tells (λ _. tt) from v.first _ (λ x is. walk.at_pointer Tells (λ _. tt) from x _ (λ s was _. walk.at_absent_cell Tells (λ _. tt) k v.cell _ (λ _. tt)))
  row_of_tells (kind.CellLoad k to) v =
      walk.at_cell Tells (λ _. tt) k v.cell _ (λ s is. walk.at_unheld Tells (λ _. tt) to v.first _ (λ _. tt))
  row_of_tells (kind.CellSwap k from to) v =
      walk.at_cell Tells (λ _. tt) k v.cell _ (λ old had. walk.at_held Tells (λ _. tt) from v.first _ (λ x is. walk.at_pointer Tells (λ _. tt) from x _ (λ s was _.
      swapped_tells k from to v.second old s)))
  row_of_tells (kind.CellCas k expected desired) v =
      walk.at_cell Tells (λ _. tt) k v.cell _ (λ old had. walk.at_held Tells (λ _. tt) expected v.first _ (λ x is. walk.at_held Tells (λ _. tt) desired v.second _ (λ y is_too.
      walk.at_pointer Tells (λ _. tt) expected x _ (λ e was _. walk.at_pointer Tells (λ _. tt) desired y _ (λ d was_too _. exchanged_tells k expected desired old e d)))))
  row_of_tells (kind.CellDrop k) v = walk.at_cell Tells (λ _. tt) k v.cell _ (λ s is. tt)
  row_of_tells kind.ScopeEnd v = ending_none v.elements

row_tells : (op : Operation) (v : View) → Tells (row op v)
row_tells op v = walk.at_repeated Tells (λ _. tt) (repeated op.kind) _ (λ _. row_of_tells op.thread op.id op.kind v)

-- ---- what is not there, and is not made, isn't there afterwards

field_apart : (n : State) (o i q : ℕ) → HasField (get n.objects o) i → get n.objects q ≡ None → (o == q) ≡ false
field_apart n o i q can none = elim (o == q) as (λ b. (o == q) ≡ b → (o == q) ≡ false) [
  | true ↦ λ e. absurd (subst (λ (x : Option Entry). HasField x i) (ap (get n.objects) (same_number o q e) ∙ none) can)
  | false ↦ λ e. e
] refl

alive_apart : (n : State) (o q : ℕ) → IsTrue (is_alive (get n.objects o)) → get n.objects q ≡ None → (o == q) ≡ false
alive_apart n o q can none = elim (o == q) as (λ b. (o == q) ≡ b → (o == q) ≡ false) [
  | true ↦ λ e. let gone : IsTrue (is_alive None) = subst (λ (x : Option Entry). IsTrue (is_alive x)) (ap (get n.objects) (same_number o q e) ∙ none) can in absurd cc
  | false ↦ λ e. e
] refl

absent_changed : (cs : List Change) (n : State) (q : ℕ) → MakeNone cs → CanChange n cs → get n.objects q ≡ None → get (changed n cs).objects q ≡ None
absent_changed [] n q makes can none = none
absent_changed (SetHandle t h x ∷ cs) n q makes can none = absent_changed cs (changed_by n (SetHandle t h x)) q makes can.1 none
absent_changed (EndHandle h ∷ cs) n q makes can none = absent_changed cs (changed_by n (EndHandle h)) q makes can.1 none
absent_changed (SetCell c s ∷ cs) n q makes can none = absent_changed cs (changed_by n (SetCell c s)) q makes can.1 none
absent_changed (EndCell c ∷ cs) n q makes can none = absent_changed cs (changed_by n (EndCell c)) q makes can.1 none
absent_changed (SetField o i s ∷ cs) n q makes can none =
    absent_changed cs (changed_by n (SetField o i s)) q makes can.1 (get_set_other n.objects o (with_field (get n.objects o) i s) q (field_apart n o i q can.0 none) ∙ none)
absent_changed (Make o fields ∷ cs) n q makes can none = absurd makes
absent_changed (TurnHusk o ∷ cs) n q makes can none =
    absent_changed cs (changed_by n (TurnHusk o)) q makes can.1 (get_set_other n.objects o Husk q (alive_apart n o q can.0 none) ∙ none)

course_absent : (b : Option Entry) (d g : ℕ) (after : Option Entry) → Course b d g after → b ≡ None → after ≡ None
course_absent None d g after c is = c.1.1
course_absent (Some e) d g after c is = absurd cc

unmade : (a : Answer) (cs : List Change) → IsTold a cs → is_making (Did a) ≡ false → MakeNone cs
unmade answer.Made cs told none = absurd cc
unmade answer.Cloned cs told none = absurd cc
unmade answer.Moved cs told none = absurd cc
unmade answer.Done cs told none = told
unmade answer.Yes cs told none = told
unmade answer.No cs told none = told
unmade answer.Unique cs told none = told

absent_carried : (m : State) (id : ℕ) (p : Plan) (q : ℕ) → Tells p → IsCarriable m p → is_making (carried_out m id p).outcome.verdict ≡ false → get m.objects q ≡ None → get (carried_out m id p).state.objects q ≡ None
absent_carried m id (Skip why) q told can unmaking none = none
absent_carried m id (Act answer changes event pending object) q told can unmaking none =
    let c : CascadesTo (changed m changes) (release (changed m changes) pending).state (release (changed m changes) pending).events = model.cascade.cascades (changed m changes) pending can.1 in
    course_absent (get (changed m changes).objects q) (times_destroyed q (release (changed m changes) pending).events) (times_freed q (release (changed m changes) pending).events)
    (get (release (changed m changes) pending).state.objects q) (c.courses q) (absent_changed changes m q (unmade answer changes told unmaking) can.0 none)

absent_stays : (m : State) (op : Operation) (q : ℕ) → IsSound m [] → get m.objects op.id ≡ None → is_making (step m op).outcome.verdict ≡ false → get m.objects q ≡ None → get (step m op).state.objects q ≡ None
unfolding step
absent_stays m op q sound new unmaking none = absent_carried m op.id (row op (view_of m op.thread op.kind)) q (row_tells op (view_of m op.thread op.kind)) (model.soundness.rows m op sound new) unmaking none

carried_id : (m : State) (id : ℕ) (p : Plan) → (carried_out m id p).outcome.id ≡ id
carried_id m id (Skip why) = refl
carried_id m id (Act answer changes event pending object) = refl

step_id : (m : State) (op : Operation) → (step m op).outcome.id ≡ op.id
unfolding step
step_id m op = carried_id m op.id (row op (view_of m op.thread op.kind))

-- ---- along a trace

with_kept : (os : List ℕ) (out : Outcome) (q : ℕ) → has q os ≡ true → has q (with_made os out) ≡ true
with_kept os out q h = elim (is_making out.verdict) as (λ b. has q (if b then insert_key nat_cmp os out.id else os) ≡ true) [ true ↦ has_kept os out.id q h | false ↦ h ]

step_made : (m : State) (op : Operation) (os : List ℕ) (q : ℕ) → IsSound m [] → get m.objects op.id ≡ None → (is_some (get m.objects q) ≡ true → has q os ≡ true) → is_some (get (step m op).state.objects q) ≡ true
    → has q (with_made os (step m op).outcome) ≡ true
step_made m op os q sound new before there = by_entry (get m.objects q) refl
  where
    gone : (get (step m op).state.objects q ≡ None) → ⊥
    gone none = let out : is_some (get (step m op).state.objects q) ≡ false = ap is_some none in cc

    by_number : (b : Bool) → (op.id == q) ≡ b → get m.objects q ≡ None → has q (insert_key nat_cmp os (step m op).outcome.id) ≡ true
    by_number true e none = subst (λ k. has q (insert_key nat_cmp os k) ≡ true) (sym (step_id m op ∙ same_number op.id q e)) (has_inserted os q)
    by_number false e none = absurd (gone (step_absent m op q sound none e))

    by_making : (b : Bool) → is_making (step m op).outcome.verdict ≡ b → get m.objects q ≡ None → has q (if b then insert_key nat_cmp os (step m op).outcome.id else os) ≡ true
    by_making true e none = by_number (op.id == q) refl none
    by_making false e none = absurd (gone (absent_stays m op q sound new e none))

    by_entry : (x : Option Entry) → get m.objects q ≡ x → has q (with_made os (step m op).outcome) ≡ true
    by_entry (Some x) e = with_kept os (step m op).outcome q (before (ap is_some e))
    by_entry None e = by_making (is_making (step m op).outcome.verdict) refl e

made_along : (ops : List Operation) (m : State) (os : List ℕ) → IsSound m [] → AreNew m ops → ((q : ℕ) → is_some (get m.objects q) ≡ true → has q os ≡ true)
    → (q : ℕ) → is_some (get (end_from m ops).objects q) ≡ true → has q (made_after os (outcomes_from m ops)) ≡ true
made_along [] m os sound new before q there = before q there
made_along (op ∷ ops) m os sound new before q there =
    made_along ops (step m op).state (with_made os (step m op).outcome) (step_sound m op sound new.0) new.1 (λ p is. step_made m op os p sound new.0 (before p) is) q there

-- what is there at the end of a trace was made
pub end_made : (ops : List Operation) → AreNew nothing_held ops → (q : ℕ) → is_some (get (end_from nothing_held ops).objects q) ≡ true → has q (made_after [] (outcomes_from nothing_held ops)) ≡ true
end_made ops new q there = made_along ops nothing_held [] model.soundness.start new (λ p is. absurd (nothing_there p is)) q there
  where
    nothing_there : (p : ℕ) → is_some (get nothing_held.objects p) ≡ true → ⊥
    nothing_there p is = let none : is_some (get nothing_held.objects p) ≡ false = ap is_some (get-empty nat_cmp p) in cc
