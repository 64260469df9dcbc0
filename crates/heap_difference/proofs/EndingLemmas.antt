-- Handles that no operation ends stay where they stand in their scopes.
use Rattle.std.proofs.Common.{◌≡◌, ℕ, List, [], ◌∷◌, map, refl, ap, ◌∙◌, sym, subst, Bool, true, false}
use Rattle.std.specs.Prelude.{Option, Some, None, ◌==◌, ◌&&◌, not, slice_get, is_some, if◌then◌else◌}
use Rattle.std.specs.List.{AllByRecursion}
use Rattle.std.specs.FinMap.{get}
use Rattle.trace_types.specs.declared.slots.Slot.{Slot}
use Rattle.trace_types.specs.declared.slots.Holding.{Holding}
use Rattle.trace_types.specs.declared.slots.Holding.TheVariants as holding
use Rattle.trace_types.specs.declared.slots.Entry.{Entry}
use Rattle.trace_types.specs.declared.slots.Scoped.{Scoped}
use Rattle.trace_types.specs.declared.slots.Change.{Change}
use Rattle.trace_types.specs.declared.slots.Change.TheVariants.{SetHandle, EndHandle, SetCell, EndCell, SetField, Make, TurnHusk}
use Rattle.trace_types.specs.declared.kinds.Field.{Field}
use Rattle.trace_types.specs.declared.kinds.Field.TheVariants as field
use Rattle.trace_types.specs.declared.kinds.Kind.{Kind}
use Rattle.trace_types.specs.declared.kinds.Kind.TheVariants as kind
use Rattle.trace_types.specs.Operation.{Operation}
use Rattle.ownership_model.specs.declared.key.Key.{Key}
use Rattle.ownership_model.specs.declared.key.Key.TheVariants.{Handle, Cell, Object, Scope}
use Rattle.ownership_model.specs.declared.plan.Plan.{Plan}
use Rattle.ownership_model.specs.declared.plan.Plan.TheVariants.{Skip, Act}
use Rattle.ownership_model.specs.Reach.{has}
use Rattle.ownership_model.specs.State.{State, is_alive}
use Rattle.ownership_model.specs.Scopes.{scope_of, kept_or_entered}
use Rattle.ownership_model.specs.Changes.{changed, changed_by}
use Rattle.ownership_model.specs.Release.{release}
use Rattle.ownership_model.specs.View.{Element, Read, Null, Me, Seen, View, held_fields, elements_of, members, view_of, repeated}
use Rattle.ownership_model.specs.Table.{row, row_of, new_row, upgraded, made_unique, dropped, swapped, exchanged, write_field, set_field, take_field, copy_field, fields_of, made_fields, ending, first_unheld, first_bare, same_pointer, make}
use Rattle.ownership_model.specs.Step.{step, carried_out, end_from}
use Rattle.ownership_model.specs.Alike.{AreWithin, ScopesMoveAlike}
use Rattle.ownership_model.specs.Footprint.{change_key, member_keys, scope_keys, plan_keys, footprint, footprints_from}
use Rattle.ownership_model.proofs.Counting.{get_inserted, get_removed, same_number}
use Rattle.ownership_model.proofs.LeastLemmas.{kept_roots, kept_scopes}
use Rattle.ownership_model.proofs.WalkLemmas as walk
use Rattle.ownership_model.proofs.AlikeLemmas.{within_front, within_back}
use Rattle.ownership_model.proofs.ScopeMoves.{scope_none, scope_set, scope_end, scope_then}
use Rattle.heap_difference.specs.Endings.{may_end}
use Rattle.heap_difference.proofs.Tests.{clash, itself, not_false, or_right, has_first}

module _ (u : ℕ → Bool) where
  -- ---- what the rows end
  -- the change ends none of the handles
  abbrev Keeps : Change → Type 0
  Keeps (SetHandle t h held) = Unit {0}
  Keeps (EndHandle h) = u h ≡ false
  Keeps (SetCell c s) = Unit {0}
  Keeps (EndCell c) = Unit {0}
  Keeps (SetField o i s) = Unit {0}
  Keeps (Make o fields) = Unit {0}
  Keeps (TurnHusk o) = Unit {0}

  -- nor does a plan
  abbrev PlanKeeps : Plan → Type 0
  PlanKeeps (Skip why) = Unit {0}
  PlanKeeps (Act answer changes event pending object) = AllByRecursion Keeps changes

  -- none of these elements is one of the handles
  abbrev ElementsKeep : List Element → Type 0
  ElementsKeep [] = Unit {0}
  ElementsKeep (Read h x ∷ es) = (u h ≡ false) × ElementsKeep es
  ElementsKeep (Null ∷ es) = ElementsKeep es
  ElementsKeep (Me ∷ es) = ElementsKeep es

  -- what an operation of this kind may end is none of the handles
  abbrev pub KindKeeps : Kind → Type 0
  KindKeeps k = (h : ℕ) → may_end k h ≡ true → u h ≡ false

  fields_keep : (m : State) (fs : List Field) → ((h : ℕ) → has h (held_fields fs) ≡ true → u h ≡ false) → ElementsKeep (elements_of m fs)
  fields_keep m [] c = tt
  fields_keep m (field.Held h ∷ fs) c = (c h (has_first h (held_fields fs)), fields_keep m fs (λ g here. c g (or_right (h == g) (has g (held_fields fs)) here)))
  fields_keep m (field.Null ∷ fs) c = fields_keep m fs c
  fields_keep m (field.Me ∷ fs) c = fields_keep m fs c

  view_keeps : (m : State) (t : ℕ) (k : Kind) → KindKeeps k → ElementsKeep (view_of m t k).elements
  view_keeps m t (kind.New to fields) c = fields_keep m fields c
  view_keeps m t (kind.NewCyclic to fields) c = fields_keep m fields c
  view_keeps m t (kind.NewFrom from to) c = tt
  view_keeps m t (kind.WeakNew to) c = tt
  view_keeps m t (kind.Null to) c = tt
  view_keeps m t (kind.Clone from to) c = tt
  view_keeps m t (kind.Drop h) c = tt
  view_keeps m t (kind.Downgrade from to) c = tt
  view_keeps m t (kind.Upgrade from to) c = tt
  view_keeps m t (kind.TryUnwrap h) c = tt
  view_keeps m t (kind.IntoInner h) c = tt
  view_keeps m t (kind.GetMut h) c = tt
  view_keeps m t (kind.MakeMut h) c = tt
  view_keeps m t (kind.Counts h) c = tt
  view_keeps m t (kind.PtrEq a b) c = tt
  view_keeps m t (kind.Set h i from) c = tt
  view_keeps m t (kind.Take h i to) c = tt
  view_keeps m t (kind.Get h i to) c = tt
  view_keeps m t (kind.CellNew e from) c = tt
  view_keeps m t (kind.CellLoad e to) c = tt
  view_keeps m t (kind.CellSwap e from to) c = tt
  view_keeps m t (kind.CellCas e expected desired) c = tt
  view_keeps m t (kind.CellDrop e) c = tt
  view_keeps m t kind.ScopeEnd c = fields_keep m (map field.Held (scope_of t m.scopes)) (λ h here. c h refl)

  ending_keeps : (es : List Element) (cs : List Change) → ElementsKeep es → AllByRecursion Keeps cs → AllByRecursion Keeps (ending es cs)
  ending_keeps [] cs c d = d
  ending_keeps (Read h x ∷ es) cs c d = (c.0, ending_keeps es cs c.1 d)
  ending_keeps (Null ∷ es) cs c d = ending_keeps es cs c d
  ending_keeps (Me ∷ es) cs c d = ending_keeps es cs c d

  module _ (label id : ℕ) where
    write_keeps : (h : ℕ) (owner : Option ℕ) (fields : List Slot) (i : ℕ) (s : Slot) → Keeps (write_field label h owner fields i s)
    write_keeps h (Some o) fields i s = tt
    write_keeps h None fields i s = tt

    new_keeps : (to : ℕ) (es : List Element) (it : Option Holding) → ElementsKeep es → PlanKeeps (new_row label id to es it)
    new_keeps to es it c =
        walk.at_all_held PlanKeeps (λ _. tt) (first_unheld es) _ (λ _. walk.at_all_slots PlanKeeps (λ _. tt) (first_bare es) _ (λ _. walk.at_unheld PlanKeeps (λ _. tt) to it _ (λ _.
        ending_keeps es (make label id (made_fields id es) to) c (tt, (tt, tt)))))

    upgraded_keeps : (to : ℕ) (e : Option Entry) (o : ℕ) → PlanKeeps (upgraded label to e (Some o))
    upgraded_keeps to e o = walk.at_test PlanKeeps (λ _. tt) (is_alive e) _ _ (λ _. (tt, tt)) (λ _. (tt, tt))

    unique_keeps : (h o : ℕ) (it : Seen) → PlanKeeps (made_unique label id h o it)
    unique_keeps h o it =
        walk.at_test PlanKeeps (λ _. tt) (it.strong == 1) _ _
        (λ _. walk.at_test PlanKeeps (λ _. tt) (it.weak == 0) _ _ (λ _. tt) (λ _. (tt, (tt, (tt, tt)))))
        (λ _. (tt, (tt, tt)))

    dropped_keeps : (h : ℕ) (x : Holding) → u h ≡ false → PlanKeeps (dropped h x)
    dropped_keeps h (holding.Slot s) c = (c, tt)
    dropped_keeps h (holding.Bare fields) c = (c, tt)

    swapped_keeps : (e from : ℕ) (to : Option ℕ) (it : Option Holding) (old s : Slot) → u from ≡ false → PlanKeeps (swapped label e from to it old s)
    swapped_keeps e from None it old s c = (c, (tt, tt))
    swapped_keeps e from (Some to) it old s c = walk.at_unheld PlanKeeps (λ _. tt) to it _ (λ _. (c, (tt, (tt, tt))))

    exchanged_keeps : (e expected desired : ℕ) (old a b : Slot) → u desired ≡ false → PlanKeeps (exchanged label e expected desired old a b)
    exchanged_keeps e expected desired old a b c = walk.at_test PlanKeeps (λ _. tt) (same_pointer old a) _ _ (λ _. (c, (tt, tt))) (λ _. (tt, (c, tt)))

    set_keeps : (h i from : ℕ) (y : Holding) (owner : Option ℕ) (fields : List Slot) → u from ≡ false → PlanKeeps (set_field label h i from y owner fields)
    set_keeps h i from y owner fields c =
        walk.at_slot PlanKeeps (λ _. tt) from y _ (λ s _. walk.at_field PlanKeeps (λ _. tt) i (slice_get fields i) _ (λ old _. (c, (write_keeps h owner fields i s, tt))))

    take_keeps : (h i to : ℕ) (it : Option Holding) (owner : Option ℕ) (fields : List Slot) → PlanKeeps (take_field label h i to it owner fields)
    take_keeps h i to it owner fields =
        walk.at_field PlanKeeps (λ _. tt) i (slice_get fields i) _ (λ s _. walk.at_unheld PlanKeeps (λ _. tt) to it _ (λ _. (tt, (write_keeps h owner fields i _, tt))))

    copy_keeps : (i to : ℕ) (it : Option Holding) (owner : Option ℕ) (fields : List Slot) → PlanKeeps (copy_field label i to it owner fields)
    copy_keeps i to it owner fields = walk.at_field PlanKeeps (λ _. tt) i (slice_get fields i) _ (λ s _. walk.at_unheld PlanKeeps (λ _. tt) to it _ (λ _. (tt, tt)))

    row_of_keeps : (k : Kind) (v : View) → KindKeeps k → ElementsKeep v.elements → PlanKeeps (row_of label id k v)
    row_of_keeps (kind.New to fields) v c es = new_keeps to v.elements v.first es
    row_of_keeps (kind.NewCyclic to fields) v c es = new_keeps to v.elements v.first es
    row_of_keeps (kind.NewFrom from to) v c es =
        walk.at_held PlanKeeps (λ _. tt) from v.first _ (λ x _. walk.at_bare PlanKeeps (λ _. tt) from x _ (λ fields _. walk.at_unheld PlanKeeps (λ _. tt) to v.second _ (λ _. (c from (itself from), (tt, (tt, tt))))))
    row_of_keeps (kind.WeakNew to) v c es = walk.at_unheld PlanKeeps (λ _. tt) to v.first _ (λ _. (tt, tt))
    row_of_keeps (kind.Null to) v c es = walk.at_unheld PlanKeeps (λ _. tt) to v.first _ (λ _. (tt, tt))
    row_of_keeps (kind.Clone from to) v c es =
        walk.at_held PlanKeeps (λ _. tt) from v.first _ (λ x _. walk.at_slot PlanKeeps (λ _. tt) from x _ (λ s _. walk.at_unheld PlanKeeps (λ _. tt) to v.second _ (λ _. (tt, tt))))
    row_of_keeps (kind.Drop h) v c es = walk.at_held PlanKeeps (λ _. tt) h v.first _ (λ x _. dropped_keeps h x (c h (itself h)))
    row_of_keeps (kind.Downgrade from to) v c es =
        walk.at_held PlanKeeps (λ _. tt) from v.first _ (λ x _. walk.at_strong PlanKeeps (λ _. tt) from x _ (λ o _. walk.at_unheld PlanKeeps (λ _. tt) to v.second _ (λ _. (tt, tt))))
    row_of_keeps (kind.Upgrade from to) v c es =
        walk.at_held PlanKeeps (λ _. tt) from v.first _ (λ x _. walk.at_weak PlanKeeps (λ _. tt) from x _
        (λ o _. walk.at_unheld PlanKeeps (λ _. tt) to v.second _ (λ _. upgraded_keeps to v.object.entry o))
        (walk.at_unheld PlanKeeps (λ _. tt) to v.second _ (λ _. (tt, tt))))
    row_of_keeps (kind.TryUnwrap h) v c es =
        walk.at_held PlanKeeps (λ _. tt) h v.first _ (λ x _. walk.at_strong PlanKeeps (λ _. tt) h x _ (λ o _.
        walk.at_test PlanKeeps (λ _. tt) (v.object.strong == 1) _ _ (λ _. (tt, (tt, tt))) (λ _. tt)))
    row_of_keeps (kind.IntoInner h) v c es =
        walk.at_held PlanKeeps (λ _. tt) h v.first _ (λ x _. walk.at_strong PlanKeeps (λ _. tt) h x _ (λ o _.
        walk.at_test PlanKeeps (λ _. tt) (v.object.strong == 1) _ _ (λ _. (tt, (tt, tt))) (λ _. (tt, tt))))
    row_of_keeps (kind.GetMut h) v c es = walk.at_held PlanKeeps (λ _. tt) h v.first _ (λ x _. walk.at_strong PlanKeeps (λ _. tt) h x _ (λ o _. tt))
    row_of_keeps (kind.MakeMut h) v c es = walk.at_held PlanKeeps (λ _. tt) h v.first _ (λ x _. walk.at_strong PlanKeeps (λ _. tt) h x _ (λ o _. unique_keeps h o v.object))
    row_of_keeps (kind.Counts h) v c es = walk.at_held PlanKeeps (λ _. tt) h v.first _ (λ x _. walk.at_counted PlanKeeps (λ _. tt) h x _ (λ o _. tt) (λ o _. tt) tt)
    row_of_keeps (kind.PtrEq a b) v c es =
        walk.at_held PlanKeeps (λ _. tt) a v.first _ (λ x _. walk.at_held PlanKeeps (λ _. tt) b v.second _ (λ y _. walk.at_strong PlanKeeps (λ _. tt) a x _ (λ o _. walk.at_strong PlanKeeps (λ _. tt) b y _ (λ p _. tt))))
    row_of_keeps (kind.Set h i from) v c es =
        walk.at_held PlanKeeps (λ _. tt) h v.first _ (λ x _. walk.at_held PlanKeeps (λ _. tt) from v.second _ (λ y _. walk.at_fields PlanKeeps (λ _. tt) h x v.object.entry _
        (λ o _. set_keeps h i from y (Some o) (fields_of v.object.entry) (c from (itself from)))
        (λ fields _. set_keeps h i from y None fields (c from (itself from)))))
    row_of_keeps (kind.Take h i to) v c es =
        walk.at_held PlanKeeps (λ _. tt) h v.first _ (λ x _. walk.at_fields PlanKeeps (λ _. tt) h x v.object.entry _
        (λ o _. take_keeps h i to v.second (Some o) (fields_of v.object.entry))
        (λ fields _. take_keeps h i to v.second None fields))
    row_of_keeps (kind.Get h i to) v c es =
        walk.at_held PlanKeeps (λ _. tt) h v.first _ (λ x _. walk.at_fields PlanKeeps (λ _. tt) h x v.object.entry _
        (λ o _. copy_keeps i to v.second (Some o) (fields_of v.object.entry))
        (λ fields _. copy_keeps i to v.second None fields))
    row_of_keeps (kind.CellNew e from) v c es =
        walk.at_held PlanKeeps (λ _. tt) from v.first _ (λ x _. walk.at_pointer PlanKeeps (λ _. tt) from x _ (λ s _ _. walk.at_absent_cell PlanKeeps (λ _. tt) e v.cell _ (λ _. (c from (itself from), (tt, tt)))))
    row_of_keeps (kind.CellLoad e to) v c es = walk.at_cell PlanKeeps (λ _. tt) e v.cell _ (λ s _. walk.at_unheld PlanKeeps (λ _. tt) to v.first _ (λ _. (tt, tt)))
    row_of_keeps (kind.CellSwap e from to) v c es =
        walk.at_cell PlanKeeps (λ _. tt) e v.cell _ (λ old _. walk.at_held PlanKeeps (λ _. tt) from v.first _ (λ x _. walk.at_pointer PlanKeeps (λ _. tt) from x _ (λ s _ _.
        swapped_keeps e from to v.second old s (c from (itself from)))))
    row_of_keeps (kind.CellCas e expected desired) v c es =
        walk.at_cell PlanKeeps (λ _. tt) e v.cell _ (λ old _. walk.at_held PlanKeeps (λ _. tt) expected v.first _ (λ x _. walk.at_held PlanKeeps (λ _. tt) desired v.second _ (λ y _.
        walk.at_pointer PlanKeeps (λ _. tt) expected x _ (λ a _ _. walk.at_pointer PlanKeeps (λ _. tt) desired y _ (λ b _ _. exchanged_keeps e expected desired old a b (c desired (itself desired)))))))
    row_of_keeps (kind.CellDrop e) v c es = walk.at_cell PlanKeeps (λ _. tt) e v.cell _ (λ s _. (tt, tt))
    row_of_keeps kind.ScopeEnd v c es = ending_keeps v.elements [] es tt

  row_keeps : (m : State) (op : Operation) → KindKeeps op.kind → PlanKeeps (row op (view_of m op.thread op.kind))
  row_keeps m op c =
      walk.at_repeated PlanKeeps (λ _. tt) (repeated op.kind) _
      (λ _. row_of_keeps op.thread op.id op.kind (view_of m op.thread op.kind) c (view_keeps m op.thread op.kind c))

  -- ---- the scopes
  -- each of the handles is held
  abbrev pub AreHeld : State → Type 0
  AreHeld m = (h : ℕ) → u h ≡ true → is_some (get m.handles h) ≡ true

  module _ (k : Key → Bool) where
    -- the keys of the set but for the handles
    abbrev pub but : Key → Bool
    but (Handle h) = k (Handle h) && not (u h)
    but (Cell c) = k (Cell c)
    but (Object o) = k (Object o)
    but (Scope t) = k (Scope t)

    but_is : (h : ℕ) → k (Handle h) ≡ true → u h ≡ false → but (Handle h) ≡ true
    but_is h c d = ap (λ b. b && not (u h)) c ∙ not_false (u h) d

    -- what the handles that are held do in scopes, and that each of them still is
    pub record Moved (m later : State) : Type 0 where
      pub scopes : ScopesMoveAlike but m.scopes later.scopes m.scopes later.scopes
      pub held : AreHeld later

    moved_none : (m : State) → AreHeld m → Moved m m
    moved_none m held = record { scopes = scope_none but m.scopes m.scopes; held = held }

    moved_then : (a b c : State) → Moved a b → Moved b c → Moved a c
    moved_then a b c p q = record { scopes = scope_then but a.scopes b.scopes c.scopes a.scopes b.scopes c.scopes p.scopes q.scopes; held = q.held }

    set_scopes : (m : State) (t h : ℕ) → k (Handle h) ≡ true → AreHeld m → (x : Option Holding) → get m.handles h ≡ x
        → ScopesMoveAlike but m.scopes (kept_or_entered x t h m.scopes) m.scopes (kept_or_entered x t h m.scopes)
    set_scopes m t h c held (Some x) is = scope_none but m.scopes m.scopes
    set_scopes m t h c held None is = scope_set but None t h m.scopes m.scopes (but_is h c (at (u h) refl))
      where
        at : (b : Bool) → u h ≡ b → b ≡ false
        at true e = absurd (clash (is_some (get m.handles h)) (held h e) (ap is_some is))
        at false e = refl

    held_if : (b : Bool) (x : Holding) (y : Option Holding) → is_some y ≡ true → is_some (if b then Some x else y) ≡ true
    held_if true x y c = refl
    held_if false x y c = c

    held_but : (h g : ℕ) (b : Bool) (y : Option Holding) → (h == g) ≡ b → u h ≡ false → u g ≡ true → is_some y ≡ true → is_some (if b then None else y) ≡ true
    held_but h g true y e out within c = absurd (clash (u g) within (sym (ap u (same_number h g e)) ∙ out))
    held_but h g false y e out within c = c

    change_moves : (c : Change) (m : State) → Keeps c → k (change_key c) ≡ true → AreHeld m → Moved m (changed_by m c)
    change_moves (SetHandle t h x) m c key held = record {
      scopes = set_scopes m t h key held (get m.handles h) refl;
      held = λ g d. ap is_some (get_inserted m.handles h x g) ∙ held_if (h == g) x (get m.handles g) (held g d);
    }
    change_moves (EndHandle h) m c key held = record {
      scopes = scope_end but h m.scopes m.scopes (but_is h key c);
      held = λ g d. ap is_some (get_removed m.handles h g) ∙ held_but h g (h == g) (get m.handles g) refl c d (held g d);
    }
    change_moves (SetCell e s) m c key held = record { scopes = scope_none but m.scopes m.scopes; held = held }
    change_moves (EndCell e) m c key held = record { scopes = scope_none but m.scopes m.scopes; held = held }
    change_moves (SetField o i s) m c key held = record { scopes = scope_none but m.scopes m.scopes; held = held }
    change_moves (Make o fields) m c key held = record { scopes = scope_none but m.scopes m.scopes; held = held }
    change_moves (TurnHusk o) m c key held = record { scopes = scope_none but m.scopes m.scopes; held = held }

    changes_move : (cs : List Change) (m : State) → AllByRecursion Keeps cs → AreWithin k (map change_key cs) → AreHeld m → Moved m (changed m cs)
    changes_move [] m c keys held = moved_none m held
    changes_move (d ∷ cs) m c keys held =
        let one : Moved m (changed_by m d) = change_moves d m c.0 keys.0 held in
        moved_then m (changed_by m d) (changed m (d ∷ cs)) one (changes_move cs (changed_by m d) c.1 keys.1 one.held)

    -- a cascade moves no handle
    release_moves : (m later : State) → later.handles ≡ m.handles → later.scopes ≡ m.scopes → AreHeld m → Moved m later
    release_moves m later handles scopes held = record {
      scopes = subst (λ (x : List Scoped). ScopesMoveAlike but m.scopes x m.scopes x) (sym scopes) (scope_none but m.scopes m.scopes);
      held = λ g d. ap (λ x. is_some (get x g)) handles ∙ held g d;
    }

    carried_moves : (m : State) (id : ℕ) (p : Plan) → PlanKeeps p → AreWithin k (plan_keys m p) → AreHeld m → Moved m (carried_out m id p).state
    carried_moves m id (Skip why) c keys held = moved_none m held
    carried_moves m id (Act answer changes event pending object) c keys held =
        let made : Moved m (changed m changes) = changes_move changes m c (within_front k (map change_key changes) _ keys) held in
        moved_then m (changed m changes) (release (changed m changes) pending).state made
        (release_moves (changed m changes) (release (changed m changes) pending).state (kept_roots (changed m changes) pending).0 (kept_scopes (changed m changes) pending) made.held)

    step_moves : (m : State) (op : Operation) → KindKeeps op.kind → AreWithin k (footprint m op) → AreHeld m → Moved m (step m op).state
    unfolding step footprint
    step_moves m op c keys held =
        carried_moves m op.id (row op (view_of m op.thread op.kind)) (row_keeps m op c)
        (within_back k (member_keys m (members (scope_of op.thread m.scopes) op.kind)) _ (within_back k (scope_keys op.thread op.kind) _ keys)) held

    -- operations that touch keys of the set alone, and end none of the handles, move others alone
    pub run_moves : (ops : List Operation) (m : State) → AllByRecursion (λ op. KindKeeps op.kind) ops → AreWithin k (footprints_from m ops) → AreHeld m → Moved m (end_from m ops)
    run_moves [] m c keys held = moved_none m held
    run_moves (op ∷ ops) m c keys held =
        let one : Moved m (step m op).state = step_moves m op c.0 (within_front k (footprint m op) _ keys) held in
        moved_then m (step m op).state (end_from m (op ∷ ops)) one (run_moves ops (step m op).state c.1 (within_back k (footprint m op) _ keys) one.held)
