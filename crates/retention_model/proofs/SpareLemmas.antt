-- A row of the table spares leaked objects: it sets none of them, and puts no Arc to one into a field, since what it moves or copies
-- is what handles, cells and fields of reached objects hold. And what it makes, a handle holds at once.
use Rattle.std.proofs.Common.{◌≡◌, ℕ, zero, suc, List, [], ◌∷◌, refl, ap, ◌∙◌, subst, Bool, false}
use Rattle.std.specs.Prelude.{Option, Some, None, ◌==◌, slice_get}
use Rattle.trace_types.specs.declared.slots.Slot.{Slot}
use Rattle.trace_types.specs.declared.slots.Slot.TheVariants.{Nothing, Strong, Weak, Dangling}
use Rattle.trace_types.specs.declared.slots.Holding.{Holding}
use Rattle.trace_types.specs.declared.slots.Holding.TheVariants as holding
use Rattle.trace_types.specs.declared.slots.Entry.{Entry}
use Rattle.trace_types.specs.declared.slots.Entry.TheVariants.{Alive, Husk}
use Rattle.trace_types.specs.declared.slots.Change.{Change}
use Rattle.trace_types.specs.declared.slots.Change.TheVariants.{SetHandle, EndHandle, SetCell, EndCell, SetField, Make, TurnHusk}
use Rattle.trace_types.specs.declared.kinds.Kind.{Kind}
use Rattle.trace_types.specs.declared.kinds.Kind.TheVariants as kind
use Rattle.trace_types.specs.Operation.{Operation}
use Rattle.ownership_model.specs.declared.plan.Plan.{Plan}
use Rattle.ownership_model.specs.declared.plan.Plan.TheVariants.{Skip, Act}
use Rattle.ownership_model.specs.View.{Element, Read, Null, Me, Seen, View, repeated}
use Rattle.ownership_model.specs.State.{is_alive}
use Rattle.ownership_model.specs.Table.{row, row_of, new_row, upgraded, unwrapped, made_unique, dropped, swapped, exchanged, write_field, set_field, take_field, copy_field, fields_of, slot_of, made_fields, ending, first_unheld, first_bare, same_pointer, make}
use Rattle.ownership_model.proofs.WalkLemmas as walk

-- Of a set r of objects: what is no Arc to one of them.

abbrev pub SparesSlot : (ℕ → Bool) → Slot → Type 0
SparesSlot r Nothing = Unit {0}
SparesSlot r (Strong o) = r o ≡ false
SparesSlot r (Weak o) = Unit {0}
SparesSlot r Dangling = Unit {0}

abbrev pub SpareSlots : (ℕ → Bool) → List Slot → Type 0
SpareSlots r [] = Unit {0}
SpareSlots r (s ∷ ss) = SparesSlot r s × SpareSlots r ss

abbrev pub SparesHolding : (ℕ → Bool) → Holding → Type 0
SparesHolding r (holding.Slot s) = SparesSlot r s
SparesHolding r (holding.Bare fields) = SpareSlots r fields

abbrev pub SparesEntry : (ℕ → Bool) → Entry → Type 0
SparesEntry r (Alive fields) = SpareSlots r fields
SparesEntry r Husk = Unit {0}

-- a thing that may be missing
abbrev pub IfThere : {X : Type 0} → (X → Type 0) → Option X → Type 0
IfThere P None = Unit {0}
IfThere P (Some x) = P x

-- a change that sets no object of the set, and puts no Arc to one into a field
abbrev pub SparesChange : (ℕ → Bool) → Change → Type 0
SparesChange r (SetHandle t h x) = Unit {0}
SparesChange r (EndHandle h) = Unit {0}
SparesChange r (SetCell c s) = Unit {0}
SparesChange r (EndCell c) = Unit {0}
SparesChange r (SetField o i s) = (r o ≡ false) × SparesSlot r s
SparesChange r (Make o fields) = (r o ≡ false) × SpareSlots r fields
SparesChange r (TurnHusk o) = r o ≡ false

abbrev pub SpareChanges : (ℕ → Bool) → List Change → Type 0
SpareChanges r [] = Unit {0}
SpareChanges r (c ∷ cs) = SparesChange r c × SpareChanges r cs

-- behind the change that makes an object stands only the one by which a handle holds it
abbrev pub HoldMade : List Change → Type 0
HoldMade [] = Unit {0}
HoldMade (SetHandle t h x ∷ cs) = HoldMade cs
HoldMade (EndHandle h ∷ cs) = HoldMade cs
HoldMade (SetCell c s ∷ cs) = HoldMade cs
HoldMade (EndCell c ∷ cs) = HoldMade cs
HoldMade (SetField o i s ∷ cs) = HoldMade cs
HoldMade (Make o fields ∷ cs) = (t : ℕ) × (h : ℕ) × (cs ≡ SetHandle t h (holding.Slot (Strong o)) ∷ [])
HoldMade (TurnHusk o ∷ cs) = HoldMade cs

abbrev pub SparesPlan : (ℕ → Bool) → Plan → Type 0
SparesPlan r (Skip reason) = Unit {0}
SparesPlan r (Act answer changes event pending object) = SpareChanges r changes × HoldMade changes

abbrev pub SparesElement : (ℕ → Bool) → Element → Type 0
SparesElement r (Read h held) = IfThere (SparesHolding r) held
SparesElement r Null = Unit {0}
SparesElement r Me = Unit {0}

abbrev pub SpareElements : (ℕ → Bool) → List Element → Type 0
SpareElements r [] = Unit {0}
SpareElements r (e ∷ es) = SparesElement r e × SpareElements r es

-- what handles and cells hold, and the fields of an object that a handle holds. What a Weak names may be of the set
pub record SparesView (r : ℕ → Bool) (v : View) : Type 0 where
  pub first : IfThere (SparesHolding r) v.first
  pub second : IfThere (SparesHolding r) v.second
  pub elements : SpareElements r v.elements
  pub object : (o : ℕ) → v.first ≡ Some (holding.Slot (Strong o)) → IfThere (SparesEntry r) v.object.entry

there : {X : Type 0} (P : X → Type 0) (it : Option X) (x : X) → IfThere P it → it ≡ Some x → P x
there P it x c is = subst (IfThere P) is c

module _ (r : ℕ → Bool) (label id : ℕ) (new : r id ≡ false) where
  abbrev Spares : Plan → Type 0
  Spares p = SparesPlan r p

  abbrev Held : Holding → Type 0
  Held x = SparesHolding r x

  fields_spare : (e : Option Entry) → IfThere (SparesEntry r) e → SpareSlots r (fields_of e)
  fields_spare None c = tt
  fields_spare (Some Husk) c = tt
  fields_spare (Some (Alive fields)) c = c

  slot_spares : (x : Option Holding) → IfThere (SparesHolding r) x → SparesSlot r (slot_of x)
  slot_spares None c = tt
  slot_spares (Some (holding.Slot s)) c = c
  slot_spares (Some (holding.Bare fields)) c = tt

  made_spare : (es : List Element) → SpareElements r es → SpareSlots r (made_fields id es)
  made_spare [] c = tt
  made_spare (Read h x ∷ es) c = (slot_spares x c.0, made_spare es c.1)
  made_spare (Null ∷ es) c = (tt, made_spare es c.1)
  made_spare (Me ∷ es) c = (tt, made_spare es c.1)

  ending_spares : (es : List Element) (cs : List Change) → SpareChanges r cs → SpareChanges r (ending es cs)
  ending_spares [] cs c = c
  ending_spares (Read h x ∷ es) cs c = (tt, ending_spares es cs c)
  ending_spares (Null ∷ es) cs c = ending_spares es cs c
  ending_spares (Me ∷ es) cs c = ending_spares es cs c

  ending_holds : (es : List Element) (cs : List Change) → HoldMade cs → HoldMade (ending es cs)
  ending_holds [] cs c = c
  ending_holds (Read h x ∷ es) cs c = ending_holds es cs c
  ending_holds (Null ∷ es) cs c = ending_holds es cs c
  ending_holds (Me ∷ es) cs c = ending_holds es cs c

  write_spares : (h : ℕ) (owner : Option ℕ) (fields : List Slot) (i : ℕ) (s : Slot) → IfThere (λ o. r o ≡ false) owner → SparesSlot r s → SparesChange r (write_field label h owner fields i s)
  write_spares h (Some o) fields i s c d = (c, d)
  write_spares h None fields i s c d = tt

  write_holds : (h : ℕ) (owner : Option ℕ) (fields : List Slot) (i : ℕ) (s : Slot) → HoldMade (write_field label h owner fields i s ∷ [])
  write_holds h (Some o) fields i s = tt
  write_holds h None fields i s = tt

  new_spares : (to : ℕ) (es : List Element) (it : Option Holding) → SpareElements r es → Spares (new_row label id to es it)
  new_spares to es it c =
      walk.at_all_held Spares (λ _. tt) (first_unheld es) _ (λ _. walk.at_all_slots Spares (λ _. tt) (first_bare es) _ (λ _. walk.at_unheld Spares (λ _. tt) to it _ (λ _.
      (ending_spares es (make label id (made_fields id es) to) ((new, made_spare es c), (tt, tt)), ending_holds es (make label id (made_fields id es) to) (label, to, refl)))))

  upgraded_spares : (to : ℕ) (e : Option Entry) (o : ℕ) → Spares (upgraded label to e (Some o))
  upgraded_spares to e o = walk.at_test Spares (λ _. tt) (is_alive e) _ _ (λ _. ((tt, tt), tt)) (λ _. ((tt, tt), tt))

  unique_spares : (h o : ℕ) (it : Seen) → r o ≡ false → IfThere (SparesEntry r) it.entry → Spares (made_unique label id h o it)
  unique_spares h o it c d =
      walk.at_test Spares (λ _. tt) (it.strong == 1) _ _
      (λ _. walk.at_test Spares (λ _. tt) (it.weak == 0) _ _ (λ _. (tt, tt)) (λ _. ((c, ((new, fields_spare it.entry d), (tt, tt))), (label, h, refl))))
      (λ _. (((new, fields_spare it.entry d), (tt, tt)), (label, h, refl)))

  dropped_spares : (h : ℕ) (x : Holding) → Spares (dropped h x)
  dropped_spares h (holding.Slot s) = ((tt, tt), tt)
  dropped_spares h (holding.Bare fields) = ((tt, tt), tt)

  swapped_spares : (c from : ℕ) (to : Option ℕ) (it : Option Holding) (old s : Slot) → Spares (swapped label c from to it old s)
  swapped_spares c from None it old s = ((tt, (tt, tt)), tt)
  swapped_spares c from (Some to) it old s = walk.at_unheld Spares (λ _. tt) to it _ (λ _. ((tt, (tt, (tt, tt))), tt))

  exchanged_spares : (c expected desired : ℕ) (old e d : Slot) → Spares (exchanged label c expected desired old e d)
  exchanged_spares c expected desired old e d =
      walk.at_test Spares (λ _. tt) (same_pointer old e) _ _ (λ _. ((tt, (tt, tt)), tt)) (λ _. ((tt, (tt, tt)), tt))

  set_spares : (h i from : ℕ) (y : Holding) (owner : Option ℕ) (fields : List Slot) → Held y → IfThere (λ o. r o ≡ false) owner → Spares (set_field label h i from y owner fields)
  set_spares h i from y owner fields b a =
      walk.at_slot Spares (λ _. tt) from y _ (λ s was. walk.at_field Spares (λ _. tt) i (slice_get fields i) _ (λ old got.
      ((tt, (write_spares h owner fields i s a (subst Held was b), tt)), write_holds h owner fields i s)))

  take_spares : (h i to : ℕ) (it : Option Holding) (owner : Option ℕ) (fields : List Slot) → IfThere (λ o. r o ≡ false) owner → Spares (take_field label h i to it owner fields)
  take_spares h i to it owner fields a =
      walk.at_field Spares (λ _. tt) i (slice_get fields i) _ (λ s got. walk.at_unheld Spares (λ _. tt) to it _ (λ _.
      ((tt, (write_spares h owner fields i Nothing a tt, tt)), write_holds h owner fields i Nothing)))

  copy_spares : (i to : ℕ) (it : Option Holding) (owner : Option ℕ) (fields : List Slot) → Spares (copy_field label i to it owner fields)
  copy_spares i to it owner fields =
      walk.at_field Spares (λ _. tt) i (slice_get fields i) _ (λ s got. walk.at_unheld Spares (λ _. tt) to it _ (λ _. ((tt, tt), tt)))

  -- the object that a handle holds is none of the set
  held_spares : (v : View) → SparesView r v → (x : Holding) (o : ℕ) → v.first ≡ Some x → x ≡ holding.Slot (Strong o) → r o ≡ false
  held_spares v c x o is was = subst Held was (there Held v.first x c.first is)

  -- and so are the objects that its fields hold
  entry_spares : (v : View) → SparesView r v → (x : Holding) (o : ℕ) → v.first ≡ Some x → x ≡ holding.Slot (Strong o) → IfThere (SparesEntry r) v.object.entry
  entry_spares v c x o is was = c.object o (is ∙ ap Some was)

  row_of_spares : (k : Kind) (v : View) → SparesView r v → Spares (row_of label id k v)
  row_of_spares (kind.New to fields) v c = new_spares to v.elements v.first c.elements
  row_of_spares (kind.NewCyclic to fields) v c = new_spares to v.elements v.first c.elements
  row_of_spares (kind.NewFrom from to) v c =
      walk.at_held Spares (λ _. tt) from v.first _ (λ x is. walk.at_bare Spares (λ _. tt) from x _ (λ fields was. walk.at_unheld Spares (λ _. tt) to v.second _ (λ _.
      ((tt, ((new, subst Held was (there Held v.first x c.first is)), (tt, tt))), (label, to, refl)))))
  row_of_spares (kind.WeakNew to) v c = walk.at_unheld Spares (λ _. tt) to v.first _ (λ _. ((tt, tt), tt))
  row_of_spares (kind.Null to) v c = walk.at_unheld Spares (λ _. tt) to v.first _ (λ _. ((tt, tt), tt))
  row_of_spares (kind.Clone from to) v c =
      walk.at_held Spares (λ _. tt) from v.first _ (λ x is. walk.at_slot Spares (λ _. tt) from x _ (λ s was. walk.at_unheld Spares (λ _. tt) to v.second _ (λ _. ((tt, tt), tt))))
  row_of_spares (kind.Drop h) v c = walk.at_held Spares (λ _. tt) h v.first _ (λ x is. dropped_spares h x)
  row_of_spares (kind.Downgrade from to) v c =
      walk.at_held Spares (λ _. tt) from v.first _ (λ x is. walk.at_strong Spares (λ _. tt) from x _ (λ o was. walk.at_unheld Spares (λ _. tt) to v.second _ (λ _. ((tt, tt), tt))))
  row_of_spares (kind.Upgrade from to) v c =
      walk.at_held Spares (λ _. tt) from v.first _ (λ x is. walk.at_weak Spares (λ _. tt) from x _
      (λ o was. walk.at_unheld Spares (λ _. tt) to v.second _ (λ _. upgraded_spares to v.object.entry o))
      (walk.at_unheld Spares (λ _. tt) to v.second _ (λ _. ((tt, tt), tt))))
  row_of_spares (kind.TryUnwrap h) v c =
      walk.at_held Spares (λ _. tt) h v.first _ (λ x is. walk.at_strong Spares (λ _. tt) h x _ (λ o was.
      walk.at_test Spares (λ _. tt) (v.object.strong == 1) _ _ (λ _. ((held_spares v c x o is was, (tt, tt)), tt)) (λ _. (tt, tt))))
  row_of_spares (kind.IntoInner h) v c =
      walk.at_held Spares (λ _. tt) h v.first _ (λ x is. walk.at_strong Spares (λ _. tt) h x _ (λ o was.
      walk.at_test Spares (λ _. tt) (v.object.strong == 1) _ _ (λ _. ((held_spares v c x o is was, (tt, tt)), tt)) (λ _. ((tt, tt), tt))))
  row_of_spares (kind.GetMut h) v c =
      walk.at_held Spares (λ _. tt) h v.first _ (λ x is. walk.at_strong Spares (λ _. tt) h x _ (λ o was. (tt, tt)))
  row_of_spares (kind.MakeMut h) v c =
      walk.at_held Spares (λ _. tt) h v.first _ (λ x is. walk.at_strong Spares (λ _. tt) h x _ (λ o was.
      unique_spares h o v.object (held_spares v c x o is was) (entry_spares v c x o is was)))
  row_of_spares (kind.Counts h) v c =
      walk.at_held Spares (λ _. tt) h v.first _ (λ x is. walk.at_counted Spares (λ _. tt) h x _ (λ o was. (tt, tt)) (λ o was. (tt, tt)) (tt, tt))
  row_of_spares (kind.PtrEq a b) v c =
      walk.at_held Spares (λ _. tt) a v.first _ (λ x is. walk.at_held Spares (λ _. tt) b v.second _ (λ y is_too. walk.at_strong Spares (λ _. tt) a x _ (λ o was. walk.at_strong Spares (λ _. tt) b y _ (λ p _. (tt, tt)))))
  row_of_spares (kind.Set h i from) v c =
      walk.at_held Spares (λ _. tt) h v.first _ (λ x is. walk.at_held Spares (λ _. tt) from v.second _ (λ y is_too. walk.at_fields Spares (λ _. tt) h x v.object.entry _
      (λ o was. set_spares h i from y (Some o) (fields_of v.object.entry) (there Held v.second y c.second is_too) (held_spares v c x o is was))
      (λ fields was. set_spares h i from y None fields (there Held v.second y c.second is_too) tt)))
  row_of_spares (kind.Take h i to) v c =
      walk.at_held Spares (λ _. tt) h v.first _ (λ x is. walk.at_fields Spares (λ _. tt) h x v.object.entry _
      (λ o was. take_spares h i to v.second (Some o) (fields_of v.object.entry) (held_spares v c x o is was))
      (λ fields was. take_spares h i to v.second None fields tt))
  row_of_spares (kind.Get h i to) v c =
      walk.at_held Spares (λ _. tt) h v.first _ (λ x is. walk.at_fields Spares (λ _. tt) h x v.object.entry _
      (λ o was. copy_spares i to v.second (Some o) (fields_of v.object.entry))
      (λ fields was. copy_spares i to v.second None fields))
  row_of_spares (kind.CellNew k from) v c =
      walk.at_held Spares (λ _. tt) from v.first _ (λ x is. walk.at_pointer Spares (λ _. tt) from x _ (λ s was _. walk.at_absent_cell Spares (λ _. tt) k v.cell _ (λ _. ((tt, (tt, tt)), tt))))
  row_of_spares (kind.CellLoad k to) v c =
      walk.at_cell Spares (λ _. tt) k v.cell _ (λ s is. walk.at_unheld Spares (λ _. tt) to v.first _ (λ _. ((tt, tt), tt)))
  row_of_spares (kind.CellSwap k from to) v c =
      walk.at_cell Spares (λ _. tt) k v.cell _ (λ old had. walk.at_held Spares (λ _. tt) from v.first _ (λ x is. walk.at_pointer Spares (λ _. tt) from x _ (λ s was _.
      swapped_spares k from to v.second old s)))
  row_of_spares (kind.CellCas k expected desired) v c =
      walk.at_cell Spares (λ _. tt) k v.cell _ (λ old had. walk.at_held Spares (λ _. tt) expected v.first _ (λ x is. walk.at_held Spares (λ _. tt) desired v.second _ (λ y is_too.
      walk.at_pointer Spares (λ _. tt) expected x _ (λ e was _. walk.at_pointer Spares (λ _. tt) desired y _ (λ d was_too _. exchanged_spares k expected desired old e d)))))
  row_of_spares (kind.CellDrop k) v c = walk.at_cell Spares (λ _. tt) k v.cell _ (λ s is. ((tt, tt), tt))
  row_of_spares kind.ScopeEnd v c = (ending_spares v.elements [] tt, ending_holds v.elements [] tt)

pub spares_row : (r : ℕ → Bool) (op : Operation) (v : View) → r op.id ≡ false → SparesView r v → SparesPlan r (row op v)
spares_row r op v new c = walk.at_repeated (SparesPlan r) (λ _. tt) (repeated op.kind) _ (λ _. row_of_spares r op.thread op.id new op.kind v c)
