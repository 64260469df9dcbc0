-- What a row sets, and the object that its first handle names, is named by the operation or by its outcome, or is moved.
use Rattle.std.proofs.Common.{◌≡◌, ℕ, List, [], ◌∷◌, ◌++◌, map, refl, ap, ◌∙◌, sym, subst, Bool, true}
use Rattle.std.specs.Prelude.{Option, Some, None, option_to_list, ◌==◌, slice_get}
use Rattle.std.specs.FinMap.{get}
use Rattle.trace_types.specs.declared.slots.Slot.{Slot}
use Rattle.trace_types.specs.declared.slots.Slot.TheVariants.{Nothing, Strong, Weak, Dangling}
use Rattle.trace_types.specs.declared.slots.Holding.{Holding}
use Rattle.trace_types.specs.declared.slots.Holding.TheVariants as holding
use Rattle.trace_types.specs.declared.slots.Entry.{Entry}
use Rattle.trace_types.specs.declared.slots.Change.{Change}
use Rattle.trace_types.specs.declared.kinds.Field.{Field}
use Rattle.trace_types.specs.declared.kinds.Field.TheVariants as field
use Rattle.trace_types.specs.declared.kinds.Kind.{Kind}
use Rattle.trace_types.specs.declared.kinds.Kind.TheVariants as kind
use Rattle.trace_types.specs.declared.outcomes.Reason.{Reason}
use Rattle.trace_types.specs.declared.outcomes.Reason.TheVariants.{WrongKind}
use Rattle.ownership_model.specs.declared.key.Key.{Key}
use Rattle.ownership_model.specs.declared.key.Key.TheVariants.{Handle, Cell, Object}
use Rattle.ownership_model.specs.declared.plan.Plan.{Plan}
use Rattle.ownership_model.specs.declared.plan.Plan.TheVariants.{Skip, Act}
use Rattle.ownership_model.specs.State.{State, is_alive}
use Rattle.ownership_model.specs.Scopes.{scope_of}
use Rattle.ownership_model.specs.View.{Seen, members, held_by, held_fields, named_by, named_in, elements_of, view_of, repeated}
use Rattle.ownership_model.specs.Table.{row, row_of, new_row, upgraded, made_unique, dropped, exchanged, write_field, set_field, take_field, copy_field, weak_in, counted_in, fields_of, made_fields, ending, first_unheld, first_bare, same_pointer, make}
use Rattle.ownership_model.specs.Touched.{event_object}
use Rattle.ownership_model.specs.Alike.{AreWithin}
use Rattle.ownership_model.specs.Footprint.{slot_keys, slots_keys, holding_keys, cell_keys, change_key, moved_by_changes, named_keys}
use Rattle.ownership_model.proofs.Twins.{IfThere}
use Rattle.ownership_model.proofs.Counting.{same_number}
use Rattle.ownership_model.proofs.AlikeLemmas.{within_front, within_back}
use Rattle.ownership_model.proofs.WalkLemmas as walk

-- the object that what a handle holds names
abbrev pub named_at : Option Holding → List Key
named_at it = map Object (option_to_list (named_in it))

-- the handles of a scope that ends
abbrev pub ended_by : State → ℕ → Kind → List ℕ
ended_by m t kind.ScopeEnd = scope_of t m.scopes
ended_by m t _ = []

-- P is the fact; with what is known of a Weak that names no object
module _ (P : Plan → Type 0) (skips : (why : Reason) → P (Skip why)) where
  at_weak : (h : ℕ) (x : Holding) (f : Option ℕ → Plan) → ((o : ℕ) → x ≡ holding.Slot (Weak o) → P (f (Some o))) → (x ≡ holding.Slot Dangling → P (f None)) → P (weak_in h x f)
  at_weak h (holding.Slot Nothing) f g e = skips (WrongKind h)
  at_weak h (holding.Slot (Strong o)) f g e = skips (WrongKind h)
  at_weak h (holding.Slot (Weak o)) f g e = g o refl
  at_weak h (holding.Slot Dangling) f g e = e refl
  at_weak h (holding.Bare fields) f g e = skips (WrongKind h)

  at_counted : (h : ℕ) (x : Holding) (f : Option ℕ → Plan) → ((o : ℕ) → x ≡ holding.Slot (Strong o) → P (f (Some o))) → ((o : ℕ) → x ≡ holding.Slot (Weak o) → P (f (Some o))) → (x ≡ holding.Slot Dangling → P (f None)) → P (counted_in h x f)
  at_counted h (holding.Slot Nothing) f g k e = skips (WrongKind h)
  at_counted h (holding.Slot (Strong o)) f g k e = g o refl
  at_counted h (holding.Slot (Weak o)) f g k e = k o refl
  at_counted h (holding.Slot Dangling) f g k e = e refl
  at_counted h (holding.Bare fields) f g k e = skips (WrongKind h)

module _ (k : Key → Bool) where
  -- the object is in the set
  abbrev pub Told : ℕ → Type 0
  Told o = k (Object o) ≡ true

  -- Of a plan: where the set has the objects that it tells of and all that it moves, it has what is set, and the object of the first handle
  abbrev pub Names : State → Option Holding → Plan → Type 0
  Names m first (Skip why) = Unit {0}
  Names m first (Act answer changes event pending object) =
      IfThere Told object → IfThere (λ e. Told (event_object e)) event → AreWithin k (moved_by_changes m changes) → AreWithin k (map change_key changes) × AreWithin k (named_at first)

  of_slot : (s : Slot) → AreWithin k (slot_keys s) → AreWithin k (map Object (option_to_list (named_by s)))
  of_slot Nothing c = tt
  of_slot (Strong o) c = c
  of_slot (Weak o) c = c
  of_slot Dangling c = tt

  told_slot : (s : Slot) → IfThere Told (named_by s) → AreWithin k (map Object (option_to_list (named_by s)))
  told_slot Nothing c = tt
  told_slot (Strong o) c = (c, tt)
  told_slot (Weak o) c = (c, tt)
  told_slot Dangling c = tt

  -- a handle that isn't held names nothing
  none_named : (it : Option Holding) → it ≡ None → AreWithin k (named_at it)
  none_named it is = subst (λ (y : Option Holding). AreWithin k (named_at y)) (sym is) tt

  -- what a handle holds was moved
  held_named : (it : Option Holding) → AreWithin k (holding_keys it) → AreWithin k (named_at it)
  held_named None c = tt
  held_named (Some (holding.Slot s)) c = of_slot s c
  held_named (Some (holding.Bare fields)) c = tt

  module _ (it : Option Holding) (x : Holding) (is : it ≡ Some x) where
    slot_named : (s : Slot) → x ≡ holding.Slot s → AreWithin k (map Object (option_to_list (named_by s))) → AreWithin k (named_at it)
    slot_named s was c = subst (λ (y : Option Holding). AreWithin k (named_at y)) (sym (is ∙ ap (λ (y : Holding). Some y) was)) c

    bare_named : (fields : List Slot) → x ≡ holding.Bare fields → AreWithin k (named_at it)
    bare_named fields was = subst (λ (y : Option Holding). AreWithin k (named_at y)) (sym (is ∙ ap (λ (y : Holding). Some y) was)) tt

  -- a shared pointer that is equivalent to another names the same
  same_named : (old e : Slot) → same_pointer old e ≡ true → AreWithin k (slot_keys old) → AreWithin k (slot_keys e)
  same_named old Nothing same c = tt
  same_named old Dangling same c = tt
  same_named (Strong o) (Strong p) same c = subst (λ (q : ℕ). AreWithin k (slot_keys (Strong q))) (same_number o p same) c
  same_named Nothing (Strong p) same c = absurd cc
  same_named (Weak o) (Strong p) same c = absurd cc
  same_named Dangling (Strong p) same c = absurd cc
  same_named Nothing (Weak p) same c = absurd cc
  same_named (Strong o) (Weak p) same c = absurd cc
  same_named (Weak o) (Weak p) same c = absurd cc
  same_named Dangling (Weak p) same c = absurd cc

  -- the handles among the fields of a new object end
  ending_within : (m : State) (fs : List Field) (cs : List Change) → AreWithin k (map Handle (held_fields fs)) → AreWithin k (map change_key cs) → AreWithin k (map change_key (ending (elements_of m fs) cs))
  ending_within m [] cs c d = d
  ending_within m (field.Held h ∷ fs) cs c d = (c.0, ending_within m fs cs c.1 d)
  ending_within m (field.Null ∷ fs) cs c d = ending_within m fs cs c d
  ending_within m (field.Me ∷ fs) cs c d = ending_within m fs cs c d

  -- the handles of a scope, named one by one
  pub held_within : (hs : List ℕ) → AreWithin k (map Handle hs) → AreWithin k (map Handle (held_fields (map field.Held hs)))
  held_within [] c = tt
  held_within (h ∷ hs) c = (c.0, held_within hs c.1)

  -- The rows: one that makes an object tells the counts of just that
  module _ (m : State) (label id : ℕ) where
    abbrev Fine : Option Holding → Plan → Type 0
    Fine it p = Names m it p

    write_within : (h : ℕ) (owner : Option ℕ) (fields : List Slot) (i : ℕ) (s : Slot) → k (Handle h) ≡ true → IfThere Told owner → k (change_key (write_field label h owner fields i s)) ≡ true
    write_within h None fields i s at a = at
    write_within h (Some o) fields i s at a = a

    new_names : (to : ℕ) (fs : List Field) (it : Option Holding) → k (Handle to) ≡ true → AreWithin k (map Handle (held_fields fs)) → Fine it (new_row label id to (elements_of m fs) it)
    new_names to fs it at within =
        let es = elements_of m fs in
        walk.at_all_held (Fine it) (λ _. tt) (first_unheld es) _ (λ _. walk.at_all_slots (Fine it) (λ _. tt) (first_bare es) _ (λ _. walk.at_unheld (Fine it) (λ _. tt) to it _
        (λ none told event moved. (ending_within m fs (make label id (made_fields id es) to) within (told, (at, tt)), none_named it none))))

    upgraded_names : (it : Option Holding) (to : ℕ) (e : Option Entry) (o : Option ℕ) → k (Handle to) ≡ true → (IfThere Told o → AreWithin k (named_at it)) → Fine it (upgraded label to e o)
    upgraded_names it to e None at named = λ told event moved. ((at, tt), named tt)
    upgraded_names it to e (Some o) at named = walk.at_test (Fine it) (λ _. tt) (is_alive e) _ _ (λ _ told event moved. ((at, tt), named told)) (λ _ told event moved. ((at, tt), named told))

    unique_names : (h o : ℕ) (it : Seen) → k (Handle h) ≡ true → (AreWithin k (Object o ∷ []) → AreWithin k (named_at (get m.handles h))) → Fine (get m.handles h) (made_unique label id h o it)
    unique_names h o it at named =
        let held = get m.handles h in
        let fields = fields_of it.entry in
        walk.at_test (Fine held) (λ _. tt) (it.strong == 1) _ _
        (λ _. walk.at_test (Fine held) (λ _. tt) (it.weak == 0) _ _ (λ _ told event moved. (tt, named (told, tt))) (λ _ told event moved. ((event, (told, (at, tt))), named (event, tt))))
        (λ _ told event moved. (
          (told, (at, tt)),
          held_named held (within_back k (slot_keys (Strong id)) (holding_keys held) (within_front k (slot_keys (Strong id) ++ holding_keys held) [] (within_back k (slots_keys fields) _ moved))),
        ))

    dropped_names : (h : ℕ) (it : Option Holding) (x : Holding) → it ≡ Some x → k (Handle h) ≡ true → Fine it (dropped h x)
    dropped_names h it (holding.Slot s) is at = λ told event moved. ((at, tt), slot_named it (holding.Slot s) is s refl (told_slot s told))
    dropped_names h it (holding.Bare fields) is at = λ told event moved. ((at, tt), bare_named it (holding.Bare fields) is fields refl)

    exchanged_names : (c expected desired : ℕ) (x : Holding) (old e d : Slot) → get m.handles expected ≡ Some x → x ≡ holding.Slot e → get m.cells c ≡ Some old
        → k (Handle expected) ≡ true → k (Handle desired) ≡ true → k (Cell c) ≡ true → Fine (get m.handles expected) (exchanged label c expected desired old e d)
    exchanged_names c expected desired x old e d is was had first second cell =
        let held = get m.handles expected in
        let other = get m.handles desired in
        walk.at_test (Fine held) (λ _. tt) (same_pointer old e) _ _
        (λ same told event moved. (
          (second, (cell, tt)),
          slot_named held x is e was (of_slot e (same_named old e same (subst (λ (y : Option Slot). AreWithin k (cell_keys y)) had
              (within_back k (slot_keys d) (cell_keys (get m.cells c)) (within_front k (slot_keys d ++ cell_keys (get m.cells c)) [] (within_back k (holding_keys other) _ moved)))))),
        ))
        (λ _ told event moved. ((first, (second, tt)), held_named held (within_back k (slot_keys old) (holding_keys held) (within_front k (slot_keys old ++ holding_keys held) _ moved))))

    set_names : (it : Option Holding) (h i from : ℕ) (y : Holding) (owner : Option ℕ) (fields : List Slot) → k (Handle h) ≡ true → k (Handle from) ≡ true → (IfThere Told owner → AreWithin k (named_at it)) → Fine it (set_field label h i from y owner fields)
    set_names it h i from y owner fields at second named =
        walk.at_slot (Fine it) (λ _. tt) from y _ (λ s was. walk.at_field (Fine it) (λ _. tt) i (slice_get fields i) _
        (λ old got told event moved. ((second, (write_within h owner fields i s at told, tt)), named told)))

    take_names : (it : Option Holding) (h i to : ℕ) (there : Option Holding) (owner : Option ℕ) (fields : List Slot) → k (Handle h) ≡ true → k (Handle to) ≡ true → (IfThere Told owner → AreWithin k (named_at it)) → Fine it (take_field label h i to there owner fields)
    take_names it h i to there owner fields at second named =
        walk.at_field (Fine it) (λ _. tt) i (slice_get fields i) _ (λ s got. walk.at_unheld (Fine it) (λ _. tt) to there _
        (λ _ told event moved. ((second, (write_within h owner fields i Nothing at told, tt)), named told)))

    copy_names : (it : Option Holding) (i to : ℕ) (there : Option Holding) (owner : Option ℕ) (fields : List Slot) → k (Handle to) ≡ true → (IfThere Told owner → AreWithin k (named_at it)) → Fine it (copy_field label i to there owner fields)
    copy_names it i to there owner fields second named =
        walk.at_field (Fine it) (λ _. tt) i (slice_get fields i) _ (λ s got. walk.at_unheld (Fine it) (λ _. tt) to there _ (λ _ told event moved. ((second, tt), named told)))

    row_names : (kd : Kind) → AreWithin k (named_keys (members [] kd)) → AreWithin k (map Handle (ended_by m label kd)) → Fine (held_by m (members [] kd).first) (row_of label id kd (view_of m label kd))
    row_names (kind.New to fields) n e = new_names to fields (get m.handles to) n.0 (within_front k (map Handle (held_fields fields)) [] n.1)
    row_names (kind.NewCyclic to fields) n e = new_names to fields (get m.handles to) n.0 (within_front k (map Handle (held_fields fields)) [] n.1)
    row_names (kind.NewFrom from to) n e =
        let it = get m.handles from in
        walk.at_held (Fine it) (λ _. tt) from it _ (λ x is. walk.at_bare (Fine it) (λ _. tt) from x _ (λ fields was. walk.at_unheld (Fine it) (λ _. tt) to (get m.handles to) _
        (λ _ told event moved. ((n.0, (told, (n.1.0, tt))), bare_named it x is fields was))))
    row_names (kind.WeakNew to) n e = let it = get m.handles to in walk.at_unheld (Fine it) (λ _. tt) to it _ (λ none told event moved. ((n.0, tt), none_named it none))
    row_names (kind.Null to) n e = let it = get m.handles to in walk.at_unheld (Fine it) (λ _. tt) to it _ (λ none told event moved. ((n.0, tt), none_named it none))
    row_names (kind.Clone from to) n e =
        let it = get m.handles from in
        walk.at_held (Fine it) (λ _. tt) from it _ (λ x is. walk.at_slot (Fine it) (λ _. tt) from x _ (λ s was. walk.at_unheld (Fine it) (λ _. tt) to (get m.handles to) _
        (λ _ told event moved. ((n.1.0, tt), slot_named it x is s was (told_slot s told)))))
    row_names (kind.Drop h) n e = let it = get m.handles h in walk.at_held (Fine it) (λ _. tt) h it _ (λ x is. dropped_names h it x is n.0)
    row_names (kind.Downgrade from to) n e =
        let it = get m.handles from in
        walk.at_held (Fine it) (λ _. tt) from it _ (λ x is. walk.at_strong (Fine it) (λ _. tt) from x _ (λ o was. walk.at_unheld (Fine it) (λ _. tt) to (get m.handles to) _
        (λ _ told event moved. ((n.1.0, tt), slot_named it x is (Strong o) was (told, tt)))))
    row_names (kind.Upgrade from to) n e =
        let it = get m.handles from in
        let object = (view_of m label (kind.Upgrade from to)).object in
        walk.at_held (Fine it) (λ _. tt) from it _ (λ x is. at_weak (Fine it) (λ _. tt) from x _
        (λ o was. walk.at_unheld (Fine it) (λ _. tt) to (get m.handles to) _ (λ _. upgraded_names it to object.entry (Some o) n.1.0 (λ told. slot_named it x is (Weak o) was (told, tt))))
        (λ was. walk.at_unheld (Fine it) (λ _. tt) to (get m.handles to) _ (λ _. upgraded_names it to object.entry None n.1.0 (λ told. slot_named it x is Dangling was tt))))
    row_names (kind.TryUnwrap h) n e =
        let it = get m.handles h in
        let object = (view_of m label (kind.TryUnwrap h)).object in
        walk.at_held (Fine it) (λ _. tt) h it _ (λ x is. walk.at_strong (Fine it) (λ _. tt) h x _ (λ o was.
        walk.at_test (Fine it) (λ _. tt) (object.strong == 1) _ _
        (λ _ told event moved. ((told, (n.0, tt)), slot_named it x is (Strong o) was (told, tt))) (λ _ told event moved. (tt, slot_named it x is (Strong o) was (told, tt)))))
    row_names (kind.IntoInner h) n e =
        let it = get m.handles h in
        let object = (view_of m label (kind.IntoInner h)).object in
        walk.at_held (Fine it) (λ _. tt) h it _ (λ x is. walk.at_strong (Fine it) (λ _. tt) h x _ (λ o was.
        walk.at_test (Fine it) (λ _. tt) (object.strong == 1) _ _
        (λ _ told event moved. ((told, (n.0, tt)), slot_named it x is (Strong o) was (told, tt))) (λ _ told event moved. ((n.0, tt), slot_named it x is (Strong o) was (told, tt)))))
    row_names (kind.GetMut h) n e =
        let it = get m.handles h in
        walk.at_held (Fine it) (λ _. tt) h it _ (λ x is. walk.at_strong (Fine it) (λ _. tt) h x _ (λ o was told event moved. (tt, slot_named it x is (Strong o) was (told, tt))))
    row_names (kind.MakeMut h) n e =
        let it = get m.handles h in
        walk.at_held (Fine it) (λ _. tt) h it _ (λ x is. walk.at_strong (Fine it) (λ _. tt) h x _ (λ o was.
        unique_names h o (view_of m label (kind.MakeMut h)).object n.0 (λ told. slot_named it x is (Strong o) was told)))
    row_names (kind.Counts h) n e =
        let it = get m.handles h in
        walk.at_held (Fine it) (λ _. tt) h it _ (λ x is. at_counted (Fine it) (λ _. tt) h x _
        (λ o was told event moved. (tt, slot_named it x is (Strong o) was (told, tt))) (λ o was told event moved. (tt, slot_named it x is (Weak o) was (told, tt))) (λ was told event moved. (tt, slot_named it x is Dangling was tt)))
    row_names (kind.PtrEq a b) n e =
        let it = get m.handles a in
        walk.at_held (Fine it) (λ _. tt) a it _ (λ x is. walk.at_held (Fine it) (λ _. tt) b (get m.handles b) _ (λ y is_too.
        walk.at_strong (Fine it) (λ _. tt) a x _ (λ o was. walk.at_strong (Fine it) (λ _. tt) b y _ (λ p _ told event moved. (tt, slot_named it x is (Strong o) was (told, tt))))))
    row_names (kind.Set h i from) n e =
        let it = get m.handles h in
        let entry = (view_of m label (kind.Set h i from)).object.entry in
        walk.at_held (Fine it) (λ _. tt) h it _ (λ x is. walk.at_held (Fine it) (λ _. tt) from (get m.handles from) _ (λ y is_too. walk.at_fields (Fine it) (λ _. tt) h x entry _
        (λ o was. set_names it h i from y (Some o) (fields_of entry) n.0 n.1.0 (λ told. slot_named it x is (Strong o) was (told, tt)))
        (λ fields was. set_names it h i from y None fields n.0 n.1.0 (λ told. bare_named it x is fields was))))
    row_names (kind.Take h i to) n e =
        let it = get m.handles h in
        let entry = (view_of m label (kind.Take h i to)).object.entry in
        walk.at_held (Fine it) (λ _. tt) h it _ (λ x is. walk.at_fields (Fine it) (λ _. tt) h x entry _
        (λ o was. take_names it h i to (get m.handles to) (Some o) (fields_of entry) n.0 n.1.0 (λ told. slot_named it x is (Strong o) was (told, tt)))
        (λ fields was. take_names it h i to (get m.handles to) None fields n.0 n.1.0 (λ told. bare_named it x is fields was)))
    row_names (kind.Get h i to) n e =
        let it = get m.handles h in
        let entry = (view_of m label (kind.Get h i to)).object.entry in
        walk.at_held (Fine it) (λ _. tt) h it _ (λ x is. walk.at_fields (Fine it) (λ _. tt) h x entry _
        (λ o was. copy_names it i to (get m.handles to) (Some o) (fields_of entry) n.1.0 (λ told. slot_named it x is (Strong o) was (told, tt)))
        (λ fields was. copy_names it i to (get m.handles to) None fields n.1.0 (λ told. bare_named it x is fields was)))
    row_names (kind.CellNew c from) n e =
        let it = get m.handles from in
        walk.at_held (Fine it) (λ _. tt) from it _ (λ x is. walk.at_pointer (Fine it) (λ _. tt) from x _ (λ s was _. walk.at_absent_cell (Fine it) (λ _. tt) c (get m.cells c) _
        (λ _ told event moved. ((n.0, (n.1.0, tt)), slot_named it x is s was (told_slot s told)))))
    row_names (kind.CellLoad c to) n e =
        let it = get m.handles to in
        walk.at_cell (Fine it) (λ _. tt) c (get m.cells c) _ (λ s is. walk.at_unheld (Fine it) (λ _. tt) to it _ (λ none told event moved. ((n.0, tt), none_named it none)))
    row_names (kind.CellSwap c from None) n e =
        let it = get m.handles from in
        walk.at_cell (Fine it) (λ _. tt) c (get m.cells c) _ (λ old had. walk.at_held (Fine it) (λ _. tt) from it _ (λ x is. walk.at_pointer (Fine it) (λ _. tt) from x _
        (λ s was _ told event moved. ((n.0, (n.1.0, tt)), slot_named it x is s was (told_slot s told)))))
    row_names (kind.CellSwap c from (Some to)) n e =
        let it = get m.handles from in
        walk.at_cell (Fine it) (λ _. tt) c (get m.cells c) _ (λ old had. walk.at_held (Fine it) (λ _. tt) from it _ (λ x is. walk.at_pointer (Fine it) (λ _. tt) from x _
        (λ s was _. walk.at_unheld (Fine it) (λ _. tt) to (get m.handles to) _ (λ _ told event moved. ((n.0, (n.1.1.0, (n.1.0, tt))), slot_named it x is s was (told_slot s told))))))
    row_names (kind.CellCas c expected desired) n e =
        let it = get m.handles expected in
        walk.at_cell (Fine it) (λ _. tt) c (get m.cells c) _ (λ old had. walk.at_held (Fine it) (λ _. tt) expected it _ (λ x is. walk.at_held (Fine it) (λ _. tt) desired (get m.handles desired) _ (λ y is_too.
        walk.at_pointer (Fine it) (λ _. tt) expected x _ (λ e was _. walk.at_pointer (Fine it) (λ _. tt) desired y _
        (λ d was_too _. exchanged_names c expected desired x old e d is was had n.0 n.1.0 n.1.1.0)))))
    row_names (kind.CellDrop c) n e = walk.at_cell (Fine None) (λ _. tt) c (get m.cells c) _ (λ s is told event moved. ((n.0, tt), tt))
    row_names kind.ScopeEnd n e = λ told event moved. (ending_within m (map field.Held (scope_of label m.scopes)) [] (held_within (scope_of label m.scopes) e) tt, tt)

  -- what an operation is to do
  pub plan_names : (m : State) (id t : ℕ) (kd : Kind) → AreWithin k (named_keys (members [] kd)) → AreWithin k (map Handle (ended_by m t kd))
      → Names m (held_by m (members [] kd).first) (row (record { id = id; thread = t; kind = kd }) (view_of m t kd))
  plan_names m id t kd n e =
      walk.at_repeated (Names m (held_by m (members [] kd).first)) (λ _. tt) (repeated kd) _ (λ _. row_names m t id kd n e)
