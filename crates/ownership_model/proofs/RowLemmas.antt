-- A row of the table touches nothing of the remains, where its view shows nothing of them.
use Rattle.std.proofs.Common.{◌≡◌, ℕ, zero, suc, List, [], ◌∷◌, subst, Bool, false}
use Rattle.std.specs.Prelude.{Option, Some, None, ◌==◌, slice_get}
use Rattle.trace_types.specs.declared.slots.Slot.{Slot}
use Rattle.trace_types.specs.declared.slots.Slot.TheVariants.{Nothing, Strong, Weak, Dangling}
use Rattle.trace_types.specs.declared.slots.Holding.{Holding}
use Rattle.trace_types.specs.declared.slots.Holding.TheVariants as holding
use Rattle.trace_types.specs.declared.slots.Entry.{Entry}
use Rattle.trace_types.specs.declared.slots.Entry.TheVariants.{Alive, Husk}
use Rattle.trace_types.specs.declared.slots.Change.{Change}
use Rattle.trace_types.specs.declared.slots.Item.{Item}
use Rattle.trace_types.specs.declared.kinds.Kind.{Kind}
use Rattle.trace_types.specs.declared.kinds.Kind.TheVariants as kind
use Rattle.trace_types.specs.Operation.{Operation}
use Rattle.ownership_model.specs.declared.plan.Plan.{Plan}
use Rattle.ownership_model.specs.View.{Element, Read, Null, Me, Seen, View, named_by, repeated}
use Rattle.ownership_model.specs.State.{is_alive}
use Rattle.ownership_model.specs.Table.{row, row_of, new_row, upgraded, unwrapped, made_unique, dropped, swapped, exchanged, write_field, set_field, take_field, copy_field, fields_of, slot_of, made_fields, ending, holding_drops, held_drops, first_unheld, first_bare, same_pointer, make}
use Rattle.ownership_model.proofs.Twins.{AvoidsSlot, AvoidSlots, AvoidItems, AvoidsHolding, AvoidsEntry, IfThere, AvoidsChange, AvoidChanges, AvoidsPlan, AvoidElements, AvoidsView}
use Rattle.ownership_model.proofs.WalkLemmas as walk
use Rattle.ownership_model.proofs.TwinLemmas.{set_avoids, drops_avoid}

-- what is found there has what all that may be there has
there : {X : Type 0} (P : X → Type 0) (it : Option X) (x : X) → IfThere P it → it ≡ Some x → P x
there P it x c is = subst (IfThere P) is c

module _ (r : ℕ → Bool) (label id : ℕ) (new : r id ≡ false) where
  abbrev Avoids : Plan → Type 0
  Avoids p = AvoidsPlan r p

  Outside : ℕ → Type 0
  Outside o = r o ≡ false

  named_avoids : (s : Slot) → AvoidsSlot r s → IfThere (λ o. r o ≡ false) (named_by s)
  named_avoids Nothing c = tt
  named_avoids (Strong o) c = c
  named_avoids (Weak o) c = c
  named_avoids Dangling c = tt

  fields_avoids : (e : Option Entry) → IfThere (AvoidsEntry r) e → AvoidSlots r (fields_of e)
  fields_avoids None c = tt
  fields_avoids (Some Husk) c = tt
  fields_avoids (Some (Alive fields)) c = c

  slot_avoids : (x : Option Holding) → IfThere (AvoidsHolding r) x → AvoidsSlot r (slot_of x)
  slot_avoids None c = tt
  slot_avoids (Some (holding.Slot s)) c = c
  slot_avoids (Some (holding.Bare fields)) c = tt

  made_avoids : (es : List Element) → AvoidElements r es → AvoidSlots r (made_fields id es)
  made_avoids [] c = tt
  made_avoids (Read h x ∷ es) c = (slot_avoids x c.0, made_avoids es c.1)
  made_avoids (Null ∷ es) c = (tt, made_avoids es c.1)
  made_avoids (Me ∷ es) c = (new, made_avoids es c.1)

  ending_avoids : (es : List Element) (cs : List Change) → AvoidChanges r cs → AvoidChanges r (ending es cs)
  ending_avoids [] cs c = c
  ending_avoids (Read h x ∷ es) cs c = (tt, ending_avoids es cs c)
  ending_avoids (Null ∷ es) cs c = ending_avoids es cs c
  ending_avoids (Me ∷ es) cs c = ending_avoids es cs c

  holding_avoids : (x : Option Holding) (rest : List Item) → IfThere (AvoidsHolding r) x → AvoidItems r rest → AvoidItems r (holding_drops x rest)
  holding_avoids None rest c d = d
  holding_avoids (Some (holding.Slot s)) rest c d = (c, d)
  holding_avoids (Some (holding.Bare fields)) rest c d = drops_avoid r fields rest c d

  held_avoid : (es : List Element) → AvoidElements r es → AvoidItems r (held_drops es)
  held_avoid [] c = tt
  held_avoid (Read h x ∷ es) c = holding_avoids x (held_drops es) c.0 (held_avoid es c.1)
  held_avoid (Null ∷ es) c = held_avoid es c.1
  held_avoid (Me ∷ es) c = held_avoid es c.1

  got_avoids : (fields : List Slot) (i : ℕ) → AvoidSlots r fields → IfThere (AvoidsSlot r) (slice_get fields i)
  got_avoids [] i c = tt
  got_avoids (f ∷ fields) zero c = c.0
  got_avoids (f ∷ fields) (suc i) c = got_avoids fields i c.1

  write_avoids : (h : ℕ) (owner : Option ℕ) (fields : List Slot) (i : ℕ) (s : Slot) → IfThere (λ o. r o ≡ false) owner → AvoidSlots r fields → AvoidsSlot r s → AvoidsChange r (write_field label h owner fields i s)
  write_avoids h (Some o) fields i s c d e = (c, e)
  write_avoids h None fields i s c d e = set_avoids r fields i s d e

  new_avoids : (to : ℕ) (es : List Element) (it : Option Holding) → AvoidElements r es → Avoids (new_row label id to es it)
  new_avoids to es it c =
      walk.at_all_held Avoids (λ _. tt) (first_unheld es) _ (λ _. walk.at_all_slots Avoids (λ _. tt) (first_bare es) _ (λ _. walk.at_unheld Avoids (λ _. tt) to it _ (λ _.
      (ending_avoids es (make label id (made_fields id es) to) ((new, made_avoids es c), (new, tt)), (tt, new)))))

  upgraded_avoids : (to : ℕ) (e : Option Entry) (o : ℕ) → r o ≡ false → Avoids (upgraded label to e (Some o))
  upgraded_avoids to e o c = walk.at_test Avoids (λ _. tt) (is_alive e) _ _ (λ _. ((c, tt), (tt, c))) (λ _. ((tt, tt), (tt, c)))

  unwrapped_avoids : (h o : ℕ) (fields : List Slot) → r o ≡ false → AvoidSlots r fields → Avoids (unwrapped label h o fields)
  unwrapped_avoids h o fields c d = ((c, (d, tt)), ((c, tt), c))

  unique_avoids : (h o : ℕ) (it : Seen) → r o ≡ false → IfThere (AvoidsEntry r) it.entry → Avoids (made_unique label id h o it)
  unique_avoids h o it c d =
      walk.at_test Avoids (λ _. tt) (it.strong == 1) _ _
      (λ _. walk.at_test Avoids (λ _. tt) (it.weak == 0) _ _ (λ _. (tt, (tt, c))) (λ _. ((c, ((new, fields_avoids it.entry d), (new, tt))), (tt, new))))
      (λ _. (((new, fields_avoids it.entry d), (new, tt)), ((c, tt), new)))

  dropped_avoids : (h : ℕ) (x : Holding) → AvoidsHolding r x → Avoids (dropped h x)
  dropped_avoids h (holding.Slot s) c = ((tt, tt), ((c, tt), named_avoids s c))
  dropped_avoids h (holding.Bare fields) c = ((tt, tt), (drops_avoid r fields [] c tt, tt))

  swapped_avoids : (c from : ℕ) (to : Option ℕ) (it : Option Holding) (old s : Slot) → AvoidsSlot r old → AvoidsSlot r s → Avoids (swapped label c from to it old s)
  swapped_avoids c from None it old s d e = ((tt, (e, tt)), ((d, tt), named_avoids s e))
  swapped_avoids c from (Some to) it old s d e = walk.at_unheld Avoids (λ _. tt) to it _ (λ _. ((tt, (e, (d, tt))), (tt, named_avoids s e)))

  exchanged_avoids : (c expected desired : ℕ) (old e d : Slot) → AvoidsSlot r old → AvoidsSlot r e → AvoidsSlot r d → Avoids (exchanged label c expected desired old e d)
  exchanged_avoids c expected desired old e d p q s =
      walk.at_test Avoids (λ _. tt) (same_pointer old e) _ _ (λ _. ((tt, (s, tt)), ((p, tt), named_avoids d s))) (λ _. ((p, (tt, tt)), ((q, (s, tt)), named_avoids old p)))

  abbrev Held : Holding → Type 0
  Held x = AvoidsHolding r x

  set_field_avoids : (h i from : ℕ) (y : Holding) (owner : Option ℕ) (fields : List Slot) → Held y → IfThere (λ o. r o ≡ false) owner → AvoidSlots r fields → Avoids (set_field label h i from y owner fields)
  set_field_avoids h i from y owner fields b a d =
      walk.at_slot Avoids (λ _. tt) from y _ (λ s was. walk.at_field Avoids (λ _. tt) i (slice_get fields i) _ (λ old got.
      ((tt, (write_avoids h owner fields i s a d (subst Held was b), tt)), ((there (AvoidsSlot r) (slice_get fields i) old (got_avoids fields i d) got, tt), a))))

  take_avoids : (h i to : ℕ) (it : Option Holding) (owner : Option ℕ) (fields : List Slot) → IfThere (λ o. r o ≡ false) owner → AvoidSlots r fields → Avoids (take_field label h i to it owner fields)
  take_avoids h i to it owner fields a d =
      walk.at_field Avoids (λ _. tt) i (slice_get fields i) _ (λ s got. walk.at_unheld Avoids (λ _. tt) to it _ (λ _.
      ((there (AvoidsSlot r) (slice_get fields i) s (got_avoids fields i d) got, (write_avoids h owner fields i Nothing a d tt, tt)), (tt, a))))

  copy_avoids : (i to : ℕ) (it : Option Holding) (owner : Option ℕ) (fields : List Slot) → IfThere (λ o. r o ≡ false) owner → AvoidSlots r fields → Avoids (copy_field label i to it owner fields)
  copy_avoids i to it owner fields a d =
      walk.at_field Avoids (λ _. tt) i (slice_get fields i) _ (λ s got. walk.at_unheld Avoids (λ _. tt) to it _ (λ _.
      ((there (AvoidsSlot r) (slice_get fields i) s (got_avoids fields i d) got, tt), (tt, a))))

  row_of_avoids : (k : Kind) (v : View) → AvoidsView r v → Avoids (row_of label id k v)
  row_of_avoids (kind.New to fields) v c = new_avoids to v.elements v.first c.elements
  row_of_avoids (kind.NewCyclic to fields) v c = new_avoids to v.elements v.first c.elements
  row_of_avoids (kind.NewFrom from to) v c =
      walk.at_held Avoids (λ _. tt) from v.first _ (λ x is. walk.at_bare Avoids (λ _. tt) from x _ (λ fields was. walk.at_unheld Avoids (λ _. tt) to v.second _ (λ _.
      ((tt, ((new, subst Held was (there Held v.first x c.first is)), (new, tt))), (tt, new)))))
  row_of_avoids (kind.WeakNew to) v c = walk.at_unheld Avoids (λ _. tt) to v.first _ (λ _. ((tt, tt), (tt, tt)))
  row_of_avoids (kind.Null to) v c = walk.at_unheld Avoids (λ _. tt) to v.first _ (λ _. ((tt, tt), (tt, tt)))
  row_of_avoids (kind.Clone from to) v c =
      walk.at_held Avoids (λ _. tt) from v.first _ (λ x is. walk.at_slot Avoids (λ _. tt) from x _ (λ s was. walk.at_unheld Avoids (λ _. tt) to v.second _ (λ _.
      let a : AvoidsSlot r s = subst Held was (there Held v.first x c.first is) in ((a, tt), (tt, named_avoids s a)))))
  row_of_avoids (kind.Drop h) v c = walk.at_held Avoids (λ _. tt) h v.first _ (λ x is. dropped_avoids h x (there Held v.first x c.first is))
  row_of_avoids (kind.Downgrade from to) v c =
      walk.at_held Avoids (λ _. tt) from v.first _ (λ x is. walk.at_strong Avoids (λ _. tt) from x _ (λ o was. walk.at_unheld Avoids (λ _. tt) to v.second _ (λ _.
      let a : r o ≡ false = subst Held was (there Held v.first x c.first is) in ((a, tt), (tt, a)))))
  row_of_avoids (kind.Upgrade from to) v c =
      walk.at_held Avoids (λ _. tt) from v.first _ (λ x is. walk.at_weak Avoids (λ _. tt) from x _
      (λ o was. walk.at_unheld Avoids (λ _. tt) to v.second _ (λ _. upgraded_avoids to v.object.entry o (subst Held was (there Held v.first x c.first is))))
      (walk.at_unheld Avoids (λ _. tt) to v.second _ (λ _. ((tt, tt), (tt, tt)))))
  row_of_avoids (kind.TryUnwrap h) v c =
      walk.at_held Avoids (λ _. tt) h v.first _ (λ x is. walk.at_strong Avoids (λ _. tt) h x _ (λ o was.
      let a : r o ≡ false = subst Held was (there Held v.first x c.first is) in
      walk.at_test Avoids (λ _. tt) (v.object.strong == 1) _ _ (λ _. unwrapped_avoids h o (fields_of v.object.entry) a (fields_avoids v.object.entry c.object)) (λ _. (tt, (tt, a)))))
  row_of_avoids (kind.IntoInner h) v c =
      walk.at_held Avoids (λ _. tt) h v.first _ (λ x is. walk.at_strong Avoids (λ _. tt) h x _ (λ o was.
      let a : r o ≡ false = subst Held was (there Held v.first x c.first is) in
      walk.at_test Avoids (λ _. tt) (v.object.strong == 1) _ _ (λ _. unwrapped_avoids h o (fields_of v.object.entry) a (fields_avoids v.object.entry c.object)) (λ _. ((tt, tt), ((a, tt), a)))))
  row_of_avoids (kind.GetMut h) v c =
      walk.at_held Avoids (λ _. tt) h v.first _ (λ x is. walk.at_strong Avoids (λ _. tt) h x _ (λ o was. (tt, (tt, subst Held was (there Held v.first x c.first is)))))
  row_of_avoids (kind.MakeMut h) v c =
      walk.at_held Avoids (λ _. tt) h v.first _ (λ x is. walk.at_strong Avoids (λ _. tt) h x _ (λ o was. unique_avoids h o v.object (subst Held was (there Held v.first x c.first is)) c.object))
  row_of_avoids (kind.Counts h) v c =
      walk.at_held Avoids (λ _. tt) h v.first _ (λ x is. walk.at_counted Avoids (λ _. tt) h x _
      (λ o was. (tt, (tt, subst Held was (there Held v.first x c.first is)))) (λ o was. (tt, (tt, subst Held was (there Held v.first x c.first is)))) (tt, (tt, tt)))
  row_of_avoids (kind.PtrEq a b) v c =
      walk.at_held Avoids (λ _. tt) a v.first _ (λ x is. walk.at_held Avoids (λ _. tt) b v.second _ (λ y is_too. walk.at_strong Avoids (λ _. tt) a x _ (λ o was. walk.at_strong Avoids (λ _. tt) b y _ (λ p _.
      (tt, (tt, subst Held was (there Held v.first x c.first is)))))))
  row_of_avoids (kind.Set h i from) v c =
      walk.at_held Avoids (λ _. tt) h v.first _ (λ x is. walk.at_held Avoids (λ _. tt) from v.second _ (λ y is_too. walk.at_fields Avoids (λ _. tt) h x v.object.entry _
      (λ o was. set_field_avoids h i from y (Some o) (fields_of v.object.entry) (there Held v.second y c.second is_too) (subst Held was (there Held v.first x c.first is)) (fields_avoids v.object.entry c.object))
      (λ fields was. set_field_avoids h i from y None fields (there Held v.second y c.second is_too) tt (subst Held was (there Held v.first x c.first is)))))
  row_of_avoids (kind.Take h i to) v c =
      walk.at_held Avoids (λ _. tt) h v.first _ (λ x is. walk.at_fields Avoids (λ _. tt) h x v.object.entry _
      (λ o was. take_avoids h i to v.second (Some o) (fields_of v.object.entry) (subst Held was (there Held v.first x c.first is)) (fields_avoids v.object.entry c.object))
      (λ fields was. take_avoids h i to v.second None fields tt (subst Held was (there Held v.first x c.first is))))
  row_of_avoids (kind.Get h i to) v c =
      walk.at_held Avoids (λ _. tt) h v.first _ (λ x is. walk.at_fields Avoids (λ _. tt) h x v.object.entry _
      (λ o was. copy_avoids i to v.second (Some o) (fields_of v.object.entry) (subst Held was (there Held v.first x c.first is)) (fields_avoids v.object.entry c.object))
      (λ fields was. copy_avoids i to v.second None fields tt (subst Held was (there Held v.first x c.first is))))
  row_of_avoids (kind.CellNew k from) v c =
      walk.at_held Avoids (λ _. tt) from v.first _ (λ x is. walk.at_pointer Avoids (λ _. tt) from x _ (λ s was _. walk.at_absent_cell Avoids (λ _. tt) k v.cell _ (λ _.
      let a : AvoidsSlot r s = subst Held was (there Held v.first x c.first is) in ((tt, (a, tt)), (tt, named_avoids s a)))))
  row_of_avoids (kind.CellLoad k to) v c =
      walk.at_cell Avoids (λ _. tt) k v.cell _ (λ s is. walk.at_unheld Avoids (λ _. tt) to v.first _ (λ _.
      let a : AvoidsSlot r s = there (AvoidsSlot r) v.cell s c.cell is in ((a, tt), (tt, named_avoids s a))))
  row_of_avoids (kind.CellSwap k from to) v c =
      walk.at_cell Avoids (λ _. tt) k v.cell _ (λ old had. walk.at_held Avoids (λ _. tt) from v.first _ (λ x is. walk.at_pointer Avoids (λ _. tt) from x _ (λ s was _.
      swapped_avoids k from to v.second old s (there (AvoidsSlot r) v.cell old c.cell had) (subst Held was (there Held v.first x c.first is)))))
  row_of_avoids (kind.CellCas k expected desired) v c =
      walk.at_cell Avoids (λ _. tt) k v.cell _ (λ old had. walk.at_held Avoids (λ _. tt) expected v.first _ (λ x is. walk.at_held Avoids (λ _. tt) desired v.second _ (λ y is_too.
      walk.at_pointer Avoids (λ _. tt) expected x _ (λ e was _. walk.at_pointer Avoids (λ _. tt) desired y _ (λ d was_too _.
      exchanged_avoids k expected desired old e d (there (AvoidsSlot r) v.cell old c.cell had) (subst Held was (there Held v.first x c.first is)) (subst Held was_too (there Held v.second y c.second is_too)))))))
  row_of_avoids (kind.CellDrop k) v c =
      walk.at_cell Avoids (λ _. tt) k v.cell _ (λ s is. let a : AvoidsSlot r s = there (AvoidsSlot r) v.cell s c.cell is in ((tt, tt), ((a, tt), named_avoids s a)))
  row_of_avoids kind.ScopeEnd v c = (ending_avoids v.elements [] tt, (held_avoid v.elements c.elements, tt))

pub avoids_row : (r : ℕ → Bool) (op : Operation) (v : View) → r op.id ≡ false → AvoidsView r v → AvoidsPlan r (row op v)
avoids_row r op v new c = walk.at_repeated (AvoidsPlan r) (λ _. tt) (repeated op.kind) _ (λ _. row_of_avoids r op.thread op.id new op.kind v c)
