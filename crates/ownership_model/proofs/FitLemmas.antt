-- Each row of the table keeps the limits of a state, where the operation is within its own; and so do steps and replays.
use Rattle.std.proofs.Common.{◌≡◌, ℕ, ◌≤◌, List, [], ◌∷◌, length, refl, subst, arith, Bool, true, false}
use Rattle.std.specs.Prelude.{Option, Some, None, ◌==◌, ◌&&◌, IsTrue, nat_le, slice_get}
use Rattle.std.proofs.lemmas.Bool.Decides.{nat_tests}
use Rattle.std.specs.List.{All}
use Rattle.std.proofs.lemmas.List.Elements.{All-head, All-tail}
use Rattle.std.specs.FinMap.{get}
use Rattle.trace_types.specs.declared.slots.Slot.{Slot}
use Rattle.trace_types.specs.declared.slots.Slot.TheVariants.{Nothing}
use Rattle.trace_types.specs.declared.slots.Holding.{Holding}
use Rattle.trace_types.specs.declared.slots.Holding.TheVariants as holding
use Rattle.trace_types.specs.declared.slots.Entry.{Entry}
use Rattle.trace_types.specs.declared.slots.Entry.TheVariants.{Alive, Husk}
use Rattle.trace_types.specs.declared.slots.Change.{Change}
use Rattle.trace_types.specs.declared.kinds.Field.{Field}
use Rattle.trace_types.specs.declared.kinds.Kind.{Kind}
use Rattle.trace_types.specs.declared.kinds.Kind.TheVariants as kind
use Rattle.trace_types.specs.Operation.{Operation}
use Rattle.trace_types.specs.Limits.{is_name, is_index, is_perhaps_name, is_kind, IsWithinLimits}
use Rattle.trace_types.specs.declared.limits.TheConstants.{MAX_NAME as max_name, MAX_ID as max_id, MAX_THREAD as max_thread, MAX_FIELDS as max_fields}
use Rattle.ownership_model.specs.declared.plan.Plan.{Plan}
use Rattle.ownership_model.specs.declared.plan.Plan.TheVariants.{Skip, Act}
use Rattle.ownership_model.specs.State.{State, IsSound, is_alive}
use Rattle.ownership_model.specs.Changes.{changed}
use Rattle.ownership_model.specs.Scopes.{scope_of}
use Rattle.ownership_model.specs.View.{Element, Read, Null, Me, Seen, View, members, held_by, seen, elements_of, view_of, repeated}
use Rattle.ownership_model.specs.Table.{row, row_of, new_row, upgraded, made_unique, dropped, swapped, exchanged, write_field, set_field, take_field, copy_field, fields_of, made_fields, ending, first_unheld, first_bare, same_pointer, make}
use Rattle.ownership_model.specs.Bounds.{AreFew, HoldingFits, HandleFits, ObjectFits, IsBounded, ChangeFits, ChangesFit, PlanFits}
use Rattle.ownership_model.specs.Carry.{IsCarriable}
use Rattle.ownership_model.specs.Step.{step, carried_out, end_from, AreNew}
use Rattle.ownership_model.specs.Laws.{BoundsHold}
use Rattle.ownership_model.proofs.Twins.{IfThere}
use Rattle.ownership_model.proofs.WalkLemmas as walk
use Rattle.ownership_model.proofs.BoundLemmas.{standing_weight-le, strong-le, weak-le}
use Rattle.ownership_model.proofs.LimitLemmas.{length-slice_set, nothing_bounded, changed_bounded, release_bounded}
use Rattle.ownership_model.proofs.CarryLemmas.{row_carriable, step_sound}

one : (a b : Bool) → IsTrue (a && b) → IsTrue a
one true b h = refl
one false b h = absurd cc

other : (a b : Bool) → IsTrue (a && b) → IsTrue b
other true b h = h
other false b h = absurd cc

below : (a b : ℕ) → IsTrue (nat_le a b) → a ≤ b
below a b h = grind (arith, nat_tests)

-- the elements of which an object is made
abbrev pub AreFewElements : Kind → View → Type 0
AreFewElements (kind.New to fields) v = length v.elements ≤ max_fields
AreFewElements (kind.NewCyclic to fields) v = length v.elements ≤ max_fields
AreFewElements _ v = Unit {0}

-- what the view of a bounded state shows
pub record ViewFits (k : Kind) (v : View) : Type 0 where
  pub first : IfThere HoldingFits v.first
  pub second : IfThere HoldingFits v.second
  pub elements : AreFewElements k v
  pub object : AreFew (fields_of v.object.entry)

found : (it : Option Holding) (x : Holding) → IfThere HoldingFits it → it ≡ Some x → HoldingFits x
found it x fits is = subst (IfThere HoldingFits) is fits

held_fits : (h : ℕ) (it : Option Holding) → HandleFits h it → IfThere HoldingFits it
held_fits h None fits = tt
held_fits h (Some x) fits = fits.1

entry_few : (o : ℕ) (it : Option Entry) → ObjectFits o it → AreFew (fields_of it)
entry_few o None fits = omega arith
entry_few o (Some (Alive fields)) fits = fits.1
entry_few o (Some Husk) fits = omega arith

length-elements_of : (m : State) (fields : List Field) → length (elements_of m fields) ≡ length fields
length-elements_of m [] = refl
length-elements_of m (f ∷ fields) = omega (arith, length-elements_of m fields)

module _ (m : State) (b : IsBounded m) where
  held_by_fits : (h : Option ℕ) → IfThere HoldingFits (held_by m h)
  held_by_fits None = tt
  held_by_fits (Some h) = held_fits h (get m.handles h) (b.handles h)

  seen_few : (o : Option ℕ) → AreFew (fields_of (seen m o).entry)
  seen_few None = omega arith
  seen_few (Some o) = entry_few o (get m.objects o) (b.objects o)

few_elements : (m : State) (t : ℕ) (k : Kind) → IsTrue (is_kind k) → AreFewElements k (view_of m t k)
few_elements m t (kind.New to fields) fits = omega (arith, length-elements_of m fields, below (length fields) max_fields (one (nat_le (length fields) max_fields) _ (other (is_name to) _ fits)))
few_elements m t (kind.NewCyclic to fields) fits = omega (arith, length-elements_of m fields, below (length fields) max_fields (one (nat_le (length fields) max_fields) _ (other (is_name to) _ fits)))
few_elements m t (kind.NewFrom from to) fits = tt
few_elements m t (kind.WeakNew to) fits = tt
few_elements m t (kind.Null to) fits = tt
few_elements m t (kind.Clone from to) fits = tt
few_elements m t (kind.Drop h) fits = tt
few_elements m t (kind.Downgrade from to) fits = tt
few_elements m t (kind.Upgrade from to) fits = tt
few_elements m t (kind.TryUnwrap h) fits = tt
few_elements m t (kind.IntoInner h) fits = tt
few_elements m t (kind.GetMut h) fits = tt
few_elements m t (kind.MakeMut h) fits = tt
few_elements m t (kind.Counts h) fits = tt
few_elements m t (kind.PtrEq a b) fits = tt
few_elements m t (kind.Set h i from) fits = tt
few_elements m t (kind.Take h i to) fits = tt
few_elements m t (kind.Get h i to) fits = tt
few_elements m t (kind.CellNew c from) fits = tt
few_elements m t (kind.CellLoad c to) fits = tt
few_elements m t (kind.CellSwap c from to) fits = tt
few_elements m t (kind.CellCas c expected desired) fits = tt
few_elements m t (kind.CellDrop c) fits = tt
few_elements m t kind.ScopeEnd fits = tt

view_fits : (m : State) (t : ℕ) (k : Kind) → IsBounded m → IsTrue (is_kind k) → ViewFits k (view_of m t k)
view_fits m t k b fits = record {
  first = held_by_fits m b (members (scope_of t m.scopes) k).first;
  second = held_by_fits m b (members (scope_of t m.scopes) k).second;
  elements = few_elements m t k fits;
  object = seen_few m b _;
}

ending_fits : (es : List Element) (changes : List Change) → ChangesFit changes → ChangesFit (ending es changes)
ending_fits [] changes fits = fits
ending_fits (Read h x ∷ es) changes fits = (tt, ending_fits es changes fits)
ending_fits (Null ∷ es) changes fits = ending_fits es changes fits
ending_fits (Me ∷ es) changes fits = ending_fits es changes fits

length-made_fields : (id : ℕ) (es : List Element) → length (made_fields id es) ≡ length es
length-made_fields id [] = refl
length-made_fields id (Read h x ∷ es) = omega (arith, length-made_fields id es)
length-made_fields id (Null ∷ es) = omega (arith, length-made_fields id es)
length-made_fields id (Me ∷ es) = omega (arith, length-made_fields id es)

write_fits : (label h : ℕ) (owner : Option ℕ) (fields : List Slot) (i : ℕ) (s : Slot) → label ≤ max_thread → h ≤ max_name → AreFew fields → ChangeFits (write_field label h owner fields i s)
write_fits label h (Some o) fields i s word name few = tt
write_fits label h None fields i s word name few = (word, (name, omega (arith, few, length-slice_set fields i s)))

dropped_fits : (h : ℕ) (x : Holding) → PlanFits (dropped h x)
dropped_fits h (holding.Slot s) = (tt, tt)
dropped_fits h (holding.Bare fields) = (tt, tt)

module _ (label id : ℕ) (word : label ≤ max_thread) (low : id ≤ max_id) where
  make_fits : (fields : List Slot) (to : ℕ) → AreFew fields → to ≤ max_name → ChangesFit (make label id fields to)
  make_fits fields to few name = ((low, few), ((word, (name, tt)), tt))

  new_fits : (to : ℕ) (es : List Element) (it : Option Holding) → length es ≤ max_fields → to ≤ max_name → PlanFits (new_row label id to es it)
  new_fits to es it few name =
      walk.at_all_held PlanFits (λ _. tt) (first_unheld es) _ (λ _. walk.at_all_slots PlanFits (λ _. tt) (first_bare es) _ (λ _. walk.at_unheld PlanFits (λ _. tt) to it _ (λ _.
      ending_fits es (make label id (made_fields id es) to) (make_fits (made_fields id es) to (omega (arith, few, length-made_fields id es)) name))))

  unique_fits : (h o : ℕ) (it : Seen) → h ≤ max_name → AreFew (fields_of it.entry) → PlanFits (made_unique label id h o it)
  unique_fits h o it name few =
      walk.at_test PlanFits (λ _. tt) (it.strong == 1) _ _
      (λ _. walk.at_test PlanFits (λ _. tt) (it.weak == 0) _ _ (λ _. tt) (λ _. (tt, make_fits (fields_of it.entry) h few name)))
      (λ _. make_fits (fields_of it.entry) h few name)

  upgraded_fits : (to : ℕ) (e : Option Entry) (o : Option ℕ) → to ≤ max_name → PlanFits (upgraded label to e o)
  upgraded_fits to e None name = ((word, (name, tt)), tt)
  upgraded_fits to e (Some o) name = walk.at_test PlanFits (λ _. tt) (is_alive e) _ _ (λ _. ((word, (name, tt)), tt)) (λ _. ((word, (name, tt)), tt))

  swapped_fits : (c from : ℕ) (to : Option ℕ) (it : Option Holding) (old s : Slot) → c ≤ max_name → IsTrue (is_perhaps_name to) → PlanFits (swapped label c from to it old s)
  swapped_fits c from None it old s cell name = (tt, (cell, tt))
  swapped_fits c from (Some to) it old s cell name = walk.at_unheld PlanFits (λ _. tt) to it _ (λ _. (tt, (cell, ((word, (below to max_name name, tt)), tt))))

  exchanged_fits : (c expected desired : ℕ) (old e d : Slot) → c ≤ max_name → expected ≤ max_name → PlanFits (exchanged label c expected desired old e d)
  exchanged_fits c expected desired old e d cell name =
      walk.at_test PlanFits (λ _. tt) (same_pointer old e) _ _ (λ _. (tt, (cell, tt))) (λ _. ((word, (name, tt)), (tt, tt)))

  set_fits : (h i from : ℕ) (y : Holding) (owner : Option ℕ) (fields : List Slot) → h ≤ max_name → AreFew fields → PlanFits (set_field label h i from y owner fields)
  set_fits h i from y owner fields name few =
      walk.at_slot PlanFits (λ _. tt) from y _ (λ s was. walk.at_field PlanFits (λ _. tt) i (slice_get fields i) _ (λ old got. (tt, (write_fits label h owner fields i s word name few, tt))))

  take_fits : (h i to : ℕ) (it : Option Holding) (owner : Option ℕ) (fields : List Slot) → h ≤ max_name → to ≤ max_name → AreFew fields → PlanFits (take_field label h i to it owner fields)
  take_fits h i to it owner fields name target few =
      walk.at_field PlanFits (λ _. tt) i (slice_get fields i) _ (λ s got. walk.at_unheld PlanFits (λ _. tt) to it _ (λ _. ((word, (target, tt)), (write_fits label h owner fields i Nothing word name few, tt))))

  copy_fits : (i to : ℕ) (it : Option Holding) (owner : Option ℕ) (fields : List Slot) → to ≤ max_name → PlanFits (copy_field label i to it owner fields)
  copy_fits i to it owner fields target =
      walk.at_field PlanFits (λ _. tt) i (slice_get fields i) _ (λ s got. walk.at_unheld PlanFits (λ _. tt) to it _ (λ _. ((word, (target, tt)), tt)))

  bare_few : (it : Option Holding) (x : Holding) (fields : List Slot) → IfThere HoldingFits it → it ≡ Some x → x ≡ holding.Bare fields → AreFew fields
  bare_few it x fields fits is was = subst HoldingFits was (found it x fits is)

  row_of_fits : (k : Kind) (v : View) → IsTrue (is_kind k) → ViewFits k v → PlanFits (row_of label id k v)
  row_of_fits (kind.New to fields) v fits c = new_fits to v.elements v.first c.elements (below to max_name (one (is_name to) _ fits))
  row_of_fits (kind.NewCyclic to fields) v fits c = new_fits to v.elements v.first c.elements (below to max_name (one (is_name to) _ fits))
  row_of_fits (kind.NewFrom from to) v fits c =
      walk.at_held PlanFits (λ _. tt) from v.first _ (λ x is. walk.at_bare PlanFits (λ _. tt) from x _ (λ fields was. walk.at_unheld PlanFits (λ _. tt) to v.second _ (λ _.
      (tt, make_fits fields to (bare_few v.first x fields c.first is was) (below to max_name (other (is_name from) _ fits))))))
  row_of_fits (kind.WeakNew to) v fits c = walk.at_unheld PlanFits (λ _. tt) to v.first _ (λ _. ((word, (below to max_name fits, tt)), tt))
  row_of_fits (kind.Null to) v fits c = walk.at_unheld PlanFits (λ _. tt) to v.first _ (λ _. ((word, (below to max_name fits, tt)), tt))
  row_of_fits (kind.Clone from to) v fits c =
      walk.at_held PlanFits (λ _. tt) from v.first _ (λ x is. walk.at_slot PlanFits (λ _. tt) from x _ (λ s was. walk.at_unheld PlanFits (λ _. tt) to v.second _ (λ _.
      ((word, (below to max_name (other (is_name from) _ fits), tt)), tt))))
  row_of_fits (kind.Drop h) v fits c = walk.at_held PlanFits (λ _. tt) h v.first _ (λ x is. dropped_fits h x)
  row_of_fits (kind.Downgrade from to) v fits c =
      walk.at_held PlanFits (λ _. tt) from v.first _ (λ x is. walk.at_strong PlanFits (λ _. tt) from x _ (λ o was. walk.at_unheld PlanFits (λ _. tt) to v.second _ (λ _.
      ((word, (below to max_name (other (is_name from) _ fits), tt)), tt))))
  row_of_fits (kind.Upgrade from to) v fits c =
      walk.at_held PlanFits (λ _. tt) from v.first _ (λ x is. walk.at_weak PlanFits (λ _. tt) from x _
      (λ o was. walk.at_unheld PlanFits (λ _. tt) to v.second _ (λ _. upgraded_fits to v.object.entry (Some o) (below to max_name (other (is_name from) _ fits))))
      (walk.at_unheld PlanFits (λ _. tt) to v.second _ (λ _. upgraded_fits to v.object.entry None (below to max_name (other (is_name from) _ fits)))))
  row_of_fits (kind.TryUnwrap h) v fits c =
      walk.at_held PlanFits (λ _. tt) h v.first _ (λ x is. walk.at_strong PlanFits (λ _. tt) h x _ (λ o was.
      walk.at_test PlanFits (λ _. tt) (v.object.strong == 1) _ _ (λ _. (tt, ((word, (below h max_name fits, c.object)), tt))) (λ _. tt)))
  row_of_fits (kind.IntoInner h) v fits c =
      walk.at_held PlanFits (λ _. tt) h v.first _ (λ x is. walk.at_strong PlanFits (λ _. tt) h x _ (λ o was.
      walk.at_test PlanFits (λ _. tt) (v.object.strong == 1) _ _ (λ _. (tt, ((word, (below h max_name fits, c.object)), tt))) (λ _. ((word, (below h max_name fits, tt)), tt))))
  row_of_fits (kind.GetMut h) v fits c = walk.at_held PlanFits (λ _. tt) h v.first _ (λ x is. walk.at_strong PlanFits (λ _. tt) h x _ (λ o was. tt))
  row_of_fits (kind.MakeMut h) v fits c =
      walk.at_held PlanFits (λ _. tt) h v.first _ (λ x is. walk.at_strong PlanFits (λ _. tt) h x _ (λ o was. unique_fits h o v.object (below h max_name fits) c.object))
  row_of_fits (kind.Counts h) v fits c =
      walk.at_held PlanFits (λ _. tt) h v.first _ (λ x is. walk.at_counted PlanFits (λ _. tt) h x _ (λ o was. tt) (λ o was. tt) tt)
  row_of_fits (kind.PtrEq a b) v fits c =
      walk.at_held PlanFits (λ _. tt) a v.first _ (λ x is. walk.at_held PlanFits (λ _. tt) b v.second _ (λ y is_too.
      walk.at_strong PlanFits (λ _. tt) a x _ (λ o was. walk.at_strong PlanFits (λ _. tt) b y _ (λ p _. tt))))
  row_of_fits (kind.Set h i from) v fits c =
      walk.at_held PlanFits (λ _. tt) h v.first _ (λ x is. walk.at_held PlanFits (λ _. tt) from v.second _ (λ y is_too. walk.at_fields PlanFits (λ _. tt) h x v.object.entry _
      (λ o was. set_fits h i from y (Some o) (fields_of v.object.entry) (below h max_name (one (is_name h) _ fits)) c.object)
      (λ fields was. set_fits h i from y None fields (below h max_name (one (is_name h) _ fits)) (bare_few v.first x fields c.first is was))))
  row_of_fits (kind.Take h i to) v fits c =
      let target : to ≤ max_name = below to max_name (other (is_index i) _ (other (is_name h) _ fits)) in
      walk.at_held PlanFits (λ _. tt) h v.first _ (λ x is. walk.at_fields PlanFits (λ _. tt) h x v.object.entry _
      (λ o was. take_fits h i to v.second (Some o) (fields_of v.object.entry) (below h max_name (one (is_name h) _ fits)) target c.object)
      (λ fields was. take_fits h i to v.second None fields (below h max_name (one (is_name h) _ fits)) target (bare_few v.first x fields c.first is was)))
  row_of_fits (kind.Get h i to) v fits c =
      let target : to ≤ max_name = below to max_name (other (is_index i) _ (other (is_name h) _ fits)) in
      walk.at_held PlanFits (λ _. tt) h v.first _ (λ x is. walk.at_fields PlanFits (λ _. tt) h x v.object.entry _
      (λ o was. copy_fits i to v.second (Some o) (fields_of v.object.entry) target) (λ fields was. copy_fits i to v.second None fields target))
  row_of_fits (kind.CellNew cell from) v fits c =
      walk.at_held PlanFits (λ _. tt) from v.first _ (λ x is. walk.at_pointer PlanFits (λ _. tt) from x _ (λ s was _. walk.at_absent_cell PlanFits (λ _. tt) cell v.cell _ (λ _.
      (tt, (below cell max_name (one (is_name cell) _ fits), tt)))))
  row_of_fits (kind.CellLoad cell to) v fits c =
      walk.at_cell PlanFits (λ _. tt) cell v.cell _ (λ s is. walk.at_unheld PlanFits (λ _. tt) to v.first _ (λ _. ((word, (below to max_name (other (is_name cell) _ fits), tt)), tt)))
  row_of_fits (kind.CellSwap cell from to) v fits c =
      walk.at_cell PlanFits (λ _. tt) cell v.cell _ (λ old had. walk.at_held PlanFits (λ _. tt) from v.first _ (λ x is. walk.at_pointer PlanFits (λ _. tt) from x _ (λ s was _.
      swapped_fits cell from to v.second old s (below cell max_name (one (is_name cell) _ fits)) (other (is_name from) _ (other (is_name cell) _ fits)))))
  row_of_fits (kind.CellCas cell expected desired) v fits c =
      walk.at_cell PlanFits (λ _. tt) cell v.cell _ (λ old had. walk.at_held PlanFits (λ _. tt) expected v.first _ (λ x is. walk.at_held PlanFits (λ _. tt) desired v.second _ (λ y is_too.
      walk.at_pointer PlanFits (λ _. tt) expected x _ (λ e was _. walk.at_pointer PlanFits (λ _. tt) desired y _ (λ d was_too _.
      exchanged_fits cell expected desired old e d (below cell max_name (one (is_name cell) _ fits)) (below expected max_name (one (is_name expected) _ (other (is_name cell) _ fits))))))))
  row_of_fits (kind.CellDrop cell) v fits c = walk.at_cell PlanFits (λ _. tt) cell v.cell _ (λ s is. (tt, tt))
  row_of_fits kind.ScopeEnd v fits c = ending_fits v.elements [] tt

kind_within : (op : Operation) → IsWithinLimits op → IsTrue (is_kind op.kind)
kind_within op within = other (nat_le op.thread max_thread) _ (other (nat_le op.id max_id) _ (other (nat_le 1 op.id) _ within))

id_within : (op : Operation) → IsWithinLimits op → op.id ≤ max_id
id_within op within = below op.id max_id (one (nat_le op.id max_id) _ (other (nat_le 1 op.id) _ within))

thread_within : (op : Operation) → IsWithinLimits op → op.thread ≤ max_thread
thread_within op within = below op.thread max_thread (one (nat_le op.thread max_thread) _ (other (nat_le op.id max_id) _ (other (nat_le 1 op.id) _ within)))

-- each row
pub row_fits : (m : State) (op : Operation) → IsBounded m → IsWithinLimits op → PlanFits (row op (view_of m op.thread op.kind))
row_fits m op b within = walk.at_repeated PlanFits (λ _. tt) (repeated op.kind) _ (λ _.
    row_of_fits op.thread op.id (thread_within op within) (id_within op within) op.kind (view_of m op.thread op.kind) (kind_within op within) (view_fits m op.thread op.kind b (kind_within op within)))

-- what is carried out keeps the limits
carried_bounded : (m : State) (id : ℕ) (p : Plan) → IsBounded m → IsCarriable m p → PlanFits p → IsBounded (carried_out m id p).state
carried_bounded m id (Skip why) b can fits = b
carried_bounded m id (Act answer changes event pending object) b can fits = release_bounded (changed m changes) pending (changed_bounded changes m b fits can.0)

pub step_bounded : (m : State) (op : Operation) → IsSound m [] → IsBounded m → IsWithinLimits op → get m.objects op.id ≡ None → IsBounded (step m op).state
unfolding step
step_bounded m op sound b within new =
    carried_bounded m op.id (row op (view_of m op.thread op.kind)) b (row_carriable m op sound new) (row_fits m op b within)

pub end_bounded : (ops : List Operation) (m : State) → IsSound m [] → IsBounded m → All IsWithinLimits ops → AreNew m ops → IsBounded (end_from m ops)
end_bounded [] m sound b within new = b
end_bounded (op ∷ ops) m sound b within new =
    end_bounded ops (step m op).state (step_sound m op sound new.0) (step_bounded m op sound b (All-head IsWithinLimits op ops within) new.0) (All-tail IsWithinLimits op ops within) new.1

pub bounds_hold : BoundsHold
bounds_hold = record {
  start = nothing_bounded;
  changes = λ m changes. changed_bounded changes m;
  releases = release_bounded;
  rows = row_fits;
  steps = step_bounded;
  replays = λ m ops. end_bounded ops m;
  weights = λ w m light. standing_weight-le w light m;
  counts = λ m pending o bounded. (strong-le m pending o bounded, weak-le m pending o bounded);
}
