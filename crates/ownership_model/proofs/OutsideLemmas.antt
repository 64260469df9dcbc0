-- Outside of what an operation touches a sound state stays as it is.
use Rattle.std.proofs.Common.{◌≡◌, ℕ, suc, zero, ◌+◌, ◌≤◌, List, [], ◌∷◌, ◌++◌, map, refl, ap, ◌∙◌, sym, arith, Bool, true, false}
use Rattle.std.specs.Prelude.{Option, Some, None, ◌==◌, ◌&&◌, if◌then◌else◌, flat_map, slice_get, slice_set}
use Rattle.std.proofs.lemmas.Bool.Decides.{nat_tests}
use Rattle.std.specs.FinMap.{get, insert}
use Rattle.trace_types.specs.declared.slots.Slot.{Slot}
use Rattle.trace_types.specs.declared.slots.Slot.TheVariants.{Nothing, Strong, Weak, Dangling}
use Rattle.trace_types.specs.declared.slots.Holding.{Holding}
use Rattle.trace_types.specs.declared.slots.Holding.TheVariants as holding
use Rattle.trace_types.specs.declared.slots.Entry.{Entry}
use Rattle.trace_types.specs.declared.slots.Entry.TheVariants.{Alive, Husk}
use Rattle.trace_types.specs.declared.slots.Item.{Item}
use Rattle.trace_types.specs.declared.slots.Item.TheVariants as item
use Rattle.trace_types.specs.declared.slots.Change.{Change}
use Rattle.trace_types.specs.declared.slots.Change.TheVariants.{SetHandle, EndHandle, SetCell, EndCell, SetField, Make, TurnHusk}
use Rattle.trace_types.specs.declared.outcomes.Event.{Event}
use Rattle.trace_types.specs.Operation.{Operation}
use Rattle.ownership_model.specs.declared.plan.Plan.{Plan}
use Rattle.ownership_model.specs.declared.plan.Plan.TheVariants.{Skip, Act}
use Rattle.ownership_model.specs.State.{State, strong, weak, ends, weight, standing_weight, holding_weight, entry_weight, slots_weight, items_weight, names_alike, IsSound, AreCountsSound, IsSoundAt}
use Rattle.ownership_model.specs.Release.{Fate, Stays, Falls, Goes, fate, fall, drops, left_by, drop_first, release, release_within, work, is_husk}
use Rattle.ownership_model.specs.Changes.{changed, changed_by, with_field, CanBeDone, CanChange}
use Rattle.ownership_model.specs.Carry.{IsCarriable}
use Rattle.ownership_model.specs.Scopes.{scope_of}
use Rattle.ownership_model.specs.View.{members, view_of}
use Rattle.ownership_model.specs.Table.{row, fields_of}
use Rattle.ownership_model.specs.Step.{step, carried_out, end_from, AreNew}
use Rattle.ownership_model.specs.Touched.{event_object}
use Rattle.ownership_model.specs.declared.key.Key.{Key}
use Rattle.ownership_model.specs.declared.key.Key.TheVariants.{Handle, Cell, Object}
use Rattle.ownership_model.specs.Alike.{AreWithin, AreAlike, IsKeptOutside, AreCountsKeptOutside}
use Rattle.ownership_model.specs.Footprint.{slot_keys, slots_keys, holding_keys, cell_keys, item_keys, taken_within, taken, change_key, moved_by, moved_by_changes, member_keys, scope_keys, plan_keys, footprint, moved_by_plan, moved, footprints_from, moved_from}
use Rattle.ownership_model.specs.Sets.{set_by_plan, set_by}
use Rattle.ownership_model.proofs.TotalLemmas.{weight_at, total-insert, total-remove}
use Rattle.ownership_model.proofs.CountLemmas.{total-set, total-cut, get_set_other, get_cut_other, items_weight-drops, other_strong, other_weak, at}
use Rattle.ownership_model.proofs.ReleaseLemmas.{either, work_drops}
use Rattle.ownership_model.proofs.DropLemmas.{decide, all_three, end_husk, self_end, sound-drop_first}
use Rattle.ownership_model.proofs.LeastLemmas.{kept_roots}
use Rattle.ownership_model.proofs.CarryLemmas.{row_carriable, step_sound}
use Rattle.ownership_model.proofs.ScopeMoves.{scope_others}
use Rattle.ownership_model.proofs.AlikeLemmas.{within_front, within_back, IsOf, fate_of}
use Rattle.ownership_model.proofs.AlikeSteps.{step_alike}

-- a number that passes a test is another one than a number that does not
pub apart : (p : ℕ → Bool) (o q : ℕ) → p o ≡ true → p q ≡ false → (o == q) ≡ false
apart p o q a b = elim (o == q) as (λ t. (o == q) ≡ t → (o == q) ≡ false) [
  | true ↦ λ t. let same : p o ≡ p q = ap p (grind (arith, nat_tests)) in absurd cc
  | false ↦ λ f. f
] refl

-- ---- dropping an item takes off what it weighs, and nothing else
module _ (m : State) (xs : List Item) where
  -- what is brought about leaves the weight of state and pending items together as it was
  abbrev Same : Fate → Type 0
  Same f = (w : Slot → ℕ) → weight w (left_by m xs f).state (left_by m xs f).pending ≡ weight w m xs

  -- a value that falls weighs what its fields then weigh as pending items
  same_fall : (o : ℕ) (e : Option Entry) → get m.objects o ≡ e → Same (fall o e)
  same_fall o None is w = refl
  same_fall o (Some Husk) is w = refl
  same_fall o (Some (Alive fields)) is w = omega (arith, total-set (entry_weight w) m.objects o Husk (Some (Alive fields)) is, items_weight-drops w fields (item.End o ∷ xs))

  -- a husk weighs nothing
  pub husk_weight : (w : Slot → ℕ) (e : Option Entry) → is_husk e ≡ true → weight_at (entry_weight w) e ≡ 0
  husk_weight w None is = refl
  husk_weight w (Some (Alive fields)) is = absurd cc
  husk_weight w (Some Husk) is = refl

  -- so it may go
  same_go : (o : ℕ) → is_husk (get m.objects o) ≡ true → Same (Goes o)
  same_go o husk w = omega (arith, total-cut (entry_weight w) m.objects o (get m.objects o) refl, husk_weight w (get m.objects o) husk)

  -- each item that is dropped takes off its own weight alone
  same_drop : (x : Item) → AreCountsSound m (x ∷ xs) → Same (fate m x xs)
  same_drop (item.Slot Nothing) h = λ w. refl
  same_drop (item.Slot Dangling) h = λ w. refl
  same_drop (item.Slot (Strong o)) h = either Same (strong m xs o == 0) (fall o (get m.objects o)) Stays (same_fall o (get m.objects o) refl) (λ w. refl)
  same_drop (item.Slot (Weak o)) h = decide Same (weak m xs o == 0 && (is_husk (get m.objects o) && (ends o xs == 0))) (Goes o) Stays
      (λ t. same_go o (all_three m xs (weak m xs o) (ends o xs) (is_husk (get m.objects o)) t).1) (λ f w. refl)
  same_drop (item.End o) h =
      let here : IsSoundAt (strong m xs o) (weak m xs o) (1 + ends o xs) (get m.objects o) =
      at _ _ _ (strong m xs o) (weak m xs o) ((if o == o then 1 else 0) + ends o xs) _ (get m.objects o) refl refl (self_end m xs o (ends o xs)) refl (h o) in
      either Same (weak m xs o == 0) (Goes o) Stays (same_go o (end_husk m xs (strong m xs o) (weak m xs o) (ends o xs) (get m.objects o) here)) (λ w. refl)

module _ (k : Key → Bool) where
  -- only slots that name what is outside of the set weigh anything
  abbrev pub IsApart : (Slot → ℕ) → Type 0
  IsApart w = (s : Slot) → AreWithin k (slot_keys s) → w s ≡ 0

  -- an Arc to an object outside of the set is no slot to one of the set
  pub strong_apart : (o : ℕ) → k (Object o) ≡ false → IsApart (names_alike (Strong o))
  strong_apart o d Nothing c = refl
  strong_apart o d (Strong p) c = other_strong o p (apart (λ x. k (Object x)) p o c.0 d)
  strong_apart o d (Weak p) c = refl
  strong_apart o d Dangling c = refl

  -- nor is a Weak
  weak_apart : (o : ℕ) → k (Object o) ≡ false → IsApart (names_alike (Weak o))
  weak_apart o d Nothing c = refl
  weak_apart o d (Strong p) c = refl
  weak_apart o d (Weak p) c = other_weak o p (apart (λ x. k (Object x)) p o c.0 d)
  weak_apart o d Dangling c = refl

  module _ (w : Slot → ℕ) (none : IsApart w) where
    -- slots that name objects of the set alone weigh nothing
    pub slots_apart : (fields : List Slot) → AreWithin k (slots_keys fields) → slots_weight w fields ≡ 0
    slots_apart [] c = refl
    slots_apart (s ∷ fields) c = omega (arith, none s (within_front k (slot_keys s) _ c), slots_apart fields (within_back k (slot_keys s) _ c))

    -- nor does what a handle holds
    pub holding_apart : (x : Option Holding) → AreWithin k (holding_keys x) → weight_at (holding_weight w) x ≡ 0
    holding_apart None c = refl
    holding_apart (Some (holding.Slot s)) c = none s c
    holding_apart (Some (holding.Bare fields)) c = slots_apart fields c

    -- nor what a cell holds
    pub cell_apart : (x : Option Slot) → AreWithin k (cell_keys x) → weight_at w x ≡ 0
    cell_apart None c = refl
    cell_apart (Some s) c = none s c

    -- nor an object by its fields
    pub entry_apart : (e : Option Entry) → AreWithin k (slots_keys (fields_of e)) → weight_at (entry_weight w) e ≡ 0
    entry_apart None c = refl
    entry_apart (Some Husk) c = refl
    entry_apart (Some (Alive fields)) c = slots_apart fields c

    -- nor a pending item
    item_apart : (x : Item) (xs : List Item) → AreWithin k (item_keys x) → items_weight w (x ∷ xs) ≡ items_weight w xs
    item_apart (item.Slot s) xs c = omega (arith, none s c)
    item_apart (item.End o) xs c = refl

    -- nor pending items
    items_apart : (xs : List Item) → AreWithin k (flat_map item_keys xs) → items_weight w xs ≡ 0
    items_apart [] c = refl
    items_apart (x ∷ xs) c = item_apart x xs (within_front k (item_keys x) _ c) ∙ items_apart xs (within_back k (item_keys x) _ c)

    -- a field that weighs nothing may be set to a slot that weighs nothing
    set_apart : (fields : List Slot) (i : ℕ) (s : Slot) → w s ≡ 0 → weight_at w (slice_get fields i) ≡ 0 → slots_weight w (slice_set fields i s) ≡ slots_weight w fields
    set_apart [] i s a b = refl
    set_apart (f ∷ fields) zero s a b = omega (arith, a, b)
    set_apart (f ∷ fields) (suc i) s a b = omega (arith, set_apart fields i s a b)

    -- so may a field of an object
    pub field_apart : (e : Option Entry) (i : ℕ) (s : Slot) → w s ≡ 0 → weight_at w (slice_get (fields_of e) i) ≡ 0 → entry_weight w (with_field e i s) ≡ weight_at (entry_weight w) e
    field_apart None i s a b = refl
    field_apart (Some Husk) i s a b = refl
    field_apart (Some (Alive fields)) i s a b = set_apart fields i s a b

  -- ---- changes
  -- the places outside of the set are kept, and where v holds of what is moved, so is what weighs there
  pub record Kept (v : Type 0) (m later : State) : Type 0 where
    pub handles : (h : ℕ) → k (Handle h) ≡ false → get later.handles h ≡ get m.handles h
    pub cells : (c : ℕ) → k (Cell c) ≡ false → get later.cells c ≡ get m.cells c
    pub entries : (o : ℕ) → k (Object o) ≡ false → get later.objects o ≡ get m.objects o
    pub weights : v → (w : Slot → ℕ) → IsApart w → standing_weight w later ≡ standing_weight w m

  -- what is kept twice in turn is kept
  kept_then : (u v : Type 0) (a b c : State) → Kept u a b → Kept v b c → Kept (u × v) a c
  kept_then u v a b c p q = record {
    handles = λ h d. q.handles h d ∙ p.handles h d;
    cells = λ e d. q.cells e d ∙ p.cells e d;
    entries = λ o d. q.entries o d ∙ p.entries o d;
    weights = λ both w d. q.weights both.1 w d ∙ p.weights both.0 w d;
  }

  -- a stronger premise serves as well
  kept_if : (u v : Type 0) (a b : State) → (v → u) → Kept u a b → Kept v a b
  kept_if u v a b f p = record { handles = p.handles; cells = p.cells; entries = p.entries; weights = λ x. p.weights (f x) }

  -- what is set at an object of the set, and weighs what stood there, is kept outside
  kept_put : (v : Type 0) (m : State) (o : ℕ) (e : Entry) → k (Object o) ≡ true → (v → (w : Slot → ℕ) → IsApart w → entry_weight w e ≡ weight_at (entry_weight w) (get m.objects o))
      → Kept v m (record m { objects = insert m.objects o e })
  kept_put v m o e c same = record {
    handles = λ h d. refl;
    cells = λ x d. refl;
    entries = λ q d. get_set_other m.objects o e q (apart (λ x. k (Object x)) o q c d);
    weights = λ x w d. omega (arith, same x w d, total-insert (entry_weight w) m.objects o e);
  }

  -- a change sets its own place alone, and weighs what it moves
  change_kept : (c : Change) (m : State) → CanBeDone m c → k (change_key c) ≡ true → Kept (AreWithin k (moved_by m c)) m (changed_by m c)
  change_kept (SetHandle t h x) m can c = record {
    handles = λ q d. get_set_other m.handles h x q (apart (λ y. k (Handle y)) h q c d);
    cells = λ e d. refl;
    entries = λ o d. refl;
    weights = λ v w d. omega (arith, total-insert (holding_weight w) m.handles h x, holding_apart w d (Some x) (within_front k (holding_keys (Some x)) _ v), holding_apart w d (get m.handles h) (within_back k (holding_keys (Some x)) _ v));
  }
  change_kept (EndHandle h) m can c = record {
    handles = λ q d. get_cut_other m.handles h q (apart (λ y. k (Handle y)) h q c d);
    cells = λ e d. refl;
    entries = λ o d. refl;
    weights = λ v w d. omega (arith, total-remove (holding_weight w) m.handles h, holding_apart w d (get m.handles h) v);
  }
  change_kept (SetCell e x) m can c = record {
    handles = λ h d. refl;
    cells = λ q d. get_set_other m.cells e x q (apart (λ y. k (Cell y)) e q c d);
    entries = λ o d. refl;
    weights = λ v w d. omega (arith, total-insert w m.cells e x, d x (within_front k (slot_keys x) _ v), cell_apart w d (get m.cells e) (within_back k (slot_keys x) _ v));
  }
  change_kept (EndCell e) m can c = record {
    handles = λ h d. refl;
    cells = λ q d. get_cut_other m.cells e q (apart (λ y. k (Cell y)) e q c d);
    entries = λ o d. refl;
    weights = λ v w d. omega (arith, total-remove w m.cells e, cell_apart w d (get m.cells e) v);
  }
  change_kept (SetField o i s) m can c = kept_put (AreWithin k (moved_by m (SetField o i s))) m o (with_field (get m.objects o) i s) c
      (λ v w d. field_apart w d (get m.objects o) i s (d s (within_front k (slot_keys s) _ v)) (cell_apart w d (slice_get (fields_of (get m.objects o)) i) (within_back k (slot_keys s) _ v)))
  change_kept (Make o fields) m can c = kept_put (AreWithin k (slots_keys fields)) m o (Alive fields) c (λ v w d. slots_apart w d fields v ∙ sym (ap (weight_at (entry_weight w)) can))
  change_kept (TurnHusk o) m can c = kept_put (AreWithin k (slots_keys (fields_of (get m.objects o)))) m o Husk c (λ v w d. sym (entry_apart w d (get m.objects o) v))

  -- so do changes, one after another
  changes_kept : (cs : List Change) (m : State) → CanChange m cs → AreWithin k (map change_key cs) → Kept (AreWithin k (moved_by_changes m cs)) m (changed m cs)
  changes_kept [] m can c = record { handles = λ h d. refl; cells = λ e d. refl; entries = λ o d. refl; weights = λ v w d. refl }
  changes_kept (d ∷ cs) m can c =
      let here : Type 0 = AreWithin k (moved_by m d) in
      let later : Type 0 = AreWithin k (moved_by_changes (changed_by m d) cs) in
      kept_if (here × later) (AreWithin k (moved_by_changes m (d ∷ cs))) m (changed m (d ∷ cs)) (λ v. (within_front k (moved_by m d) _ v, within_back k (moved_by m d) _ v))
      (kept_then here later m (changed_by m d) (changed m (d ∷ cs)) (change_kept d m can.0 c.0) (changes_kept cs (changed_by m d) can.1 c.1))

  -- ---- a cascade
  -- what a set has of each of two lists it has of both together
  pub both : (a b : List Key) → AreWithin k a → AreWithin k b → AreWithin k (a ++ b)
  both [] b c d = d
  both (x ∷ a) b c d = (c.0, both a b c.1 d)

  -- what was pending behind the fields of a value is among all that is pending
  behind_drops : (fields : List Slot) (p : List Item) → AreWithin k (flat_map item_keys (drops fields p)) → AreWithin k (flat_map item_keys p)
  behind_drops [] p c = c
  behind_drops (s ∷ fields) p c = behind_drops fields p (within_back k (slot_keys s) _ c)

  -- what is pending behind an item is among what it leaves pending
  left_pending : (m : State) (xs : List Item) (f : Fate) → AreWithin k (flat_map item_keys (left_by m xs f).pending) → AreWithin k (flat_map item_keys xs)
  left_pending m xs Stays c = c
  left_pending m xs (Falls o fields) c = (behind_drops fields (item.End o ∷ xs) c).1
  left_pending m xs (Goes o) c = c

  -- an item changes the object that it names alone
  left_entries : (m : State) (xs : List Item) (f : Fate) → IsOf k f → (q : ℕ) → k (Object q) ≡ false → get (left_by m xs f).state.objects q ≡ get m.objects q
  left_entries m xs Stays c q d = refl
  left_entries m xs (Falls o fields) c q d = get_set_other m.objects o Husk q (apart (λ x. k (Object x)) o q c d)
  left_entries m xs (Goes o) c q d = get_cut_other m.objects o q (apart (λ x. k (Object x)) o q c d)

  -- a cascade of items that name objects of the set: outside nothing changed
  pub record Dropped (m later : State) (p : List Item) : Type 0 where
    pub entries : (o : ℕ) → k (Object o) ≡ false → get later.objects o ≡ get m.objects o
    pub weights : (w : Slot → ℕ) → IsApart w → weight w later [] ≡ weight w m p
    pub pending : AreWithin k (flat_map item_keys p)

  -- item by item, with any fuel that is enough
  pub within_kept : (f : ℕ) (m : State) (p : List Item) → work m p ≤ f → IsSound m p → AreWithin k (flat_map item_keys (taken_within f m p)) → Dropped m (release_within f m p).state p
  within_kept f m [] g h c = record { entries = λ o d. refl; weights = λ w d. refl; pending = tt }
  within_kept zero m (x ∷ xs) g h c = absurd (omega arith)
  within_kept (suc f) m (x ∷ xs) g h c =
      let d = drop_first m x xs in
      let here : AreWithin k (item_keys x) = within_front k (item_keys x) _ c in
      let r : Dropped d.state (release_within f d.state d.pending).state d.pending =
      within_kept f d.state d.pending (omega (arith, work_drops m x xs)) (sound-drop_first m x xs h) (within_back k (item_keys x) _ c) in
      record {
        entries = λ o out. r.entries o out ∙ left_entries m xs (fate m x xs) (fate_of k m x xs here) o out;
        weights = λ w none. omega (arith, r.weights w none, same_drop m xs x h.counts w, item_apart w none x xs here);
        pending = both (item_keys x) _ here (left_pending m xs (fate m x xs) r.pending);
      }

  -- so it is for a whole cascade, which sets neither handles nor cells
  release_kept : (m : State) (p : List Item) → IsSound m p → AreWithin k (flat_map item_keys (taken m p)) → Kept (Unit {0}) m (release m p).state
  unfolding release taken
  release_kept m p h c =
      let r : Dropped m (release_within (work m p) m p).state p = within_kept (work m p) m p (omega arith) h c in
      record {
        handles = λ q d. ap (λ x. get x q) (kept_roots m p).0;
        cells = λ q d. ap (λ x. get x q) (kept_roots m p).1;
        entries = r.entries;
        weights = λ v w d. omega (arith, r.weights w d, items_apart w d p r.pending);
      }

  -- ---- what is set
  -- each of the events is of an object of the set
  abbrev pub AreEventsOf : List Event → Type 0
  AreEventsOf es = AreWithin k (map Object (map event_object es))

  -- so it is with each part of them
  pub events_of : (es fs : List Event) → AreEventsOf (es ++ fs) → AreEventsOf es × AreEventsOf fs
  events_of [] fs c = (tt, c)
  events_of (e ∷ es) fs c = let p = events_of es fs c.1 in ((c.0, p.0), p.1)

  -- an item brings about what its event tells
  told_fate : (m : State) (xs : List Item) (f : Fate) → AreEventsOf (left_by m xs f).events → IsOf k f
  told_fate m xs Stays c = tt
  told_fate m xs (Falls o fields) c = c.0
  told_fate m xs (Goes o) c = c.0

  -- a cascade changes the objects of its events alone, with any fuel
  within_sets : (f : ℕ) (m : State) (p : List Item) → AreEventsOf (release_within f m p).events → (o : ℕ) → k (Object o) ≡ false → get (release_within f m p).state.objects o ≡ get m.objects o
  within_sets f m [] c o out = refl
  within_sets zero m (x ∷ xs) c o out = refl
  within_sets (suc f) m (x ∷ xs) c o out =
      let d = drop_first m x xs in
      let p = events_of d.events (release_within f d.state d.pending).events c in
      within_sets f d.state d.pending p.1 o out ∙ left_entries m xs (fate m x xs) (told_fate m xs (fate m x xs) p.0) o out

  -- so it is for a whole cascade, of whose weights nothing is known
  release_sets : (m : State) (p : List Item) → AreEventsOf (release m p).events → Kept ⊥ m (release m p).state
  unfolding release
  release_sets m p c = record {
    handles = λ q d. ap (λ x. get x q) (kept_roots m p).0;
    cells = λ q d. ap (λ x. get x q) (kept_roots m p).1;
    entries = within_sets (work m p) m p c;
    weights = λ v w d. absurd v;
  }

  -- a plan changes nothing but what it sets
  plan_sets : (m : State) (id : ℕ) (p : Plan) → IsCarriable m p → AreWithin k (set_by_plan m p) → Kept ⊥ m (carried_out m id p).state
  plan_sets m id (Skip why) can c = record { handles = λ h d. refl; cells = λ e d. refl; entries = λ o d. refl; weights = λ v w d. absurd v }
  plan_sets m id (Act answer changes event pending object) can c =
      let here : Type 0 = AreWithin k (moved_by_changes m changes) in
      kept_if (here × ⊥) ⊥ m (release (changed m changes) pending).state (λ v. absurd v)
      (kept_then here ⊥ m (changed m changes) (release (changed m changes) pending).state
      (changes_kept changes m can.0 (within_front k (map change_key changes) _ c))
      (release_sets (changed m changes) pending (within_back k (map change_key changes) _ c)))

  -- nor does an operation
  pub step_sets : (m : State) (op : Operation) → IsSound m [] → get m.objects op.id ≡ None → AreWithin k (set_by m op) → Kept ⊥ m (step m op).state
  unfolding step set_by
  step_sets m op sound new c = plan_sets m op.id (row op (view_of m op.thread op.kind)) (row_carriable m op sound new) c

  -- ---- an operation
  -- a plan sets what its keys say, and weighs what it moves
  carried_kept : (m : State) (id : ℕ) (p : Plan) → IsCarriable m p → AreWithin k (plan_keys m p) → Kept (AreWithin k (moved_by_plan m p)) m (carried_out m id p).state
  carried_kept m id (Skip why) can c = record { handles = λ h d. refl; cells = λ e d. refl; entries = λ o d. refl; weights = λ v w d. refl }
  carried_kept m id (Act answer changes event pending object) can c =
      let here : Type 0 = AreWithin k (moved_by_changes m changes) in
      kept_if (here × Unit {0}) here m (release (changed m changes) pending).state (λ v. (v, tt))
      (kept_then here (Unit {0}) m (changed m changes) (release (changed m changes) pending).state
      (changes_kept changes m can.0 (within_front k (map change_key changes) _ c))
      (release_kept (changed m changes) pending can.1 (within_front k (flat_map item_keys (taken (changed m changes) pending)) _ (within_back k (map change_key changes) _ c))))

  -- a state is like itself
  alike_self : (m : State) → AreAlike k m m
  alike_self m = record {
    handles = λ h c. refl;
    cells = λ e c. refl;
    entries = λ o c. refl;
    strongs = λ o c. refl;
    weaks = λ o c. refl;
    scopes = λ t c. refl;
    within_scopes = λ t. refl;
  }

  -- an operation sets nothing outside of its footprint
  step_parts : (m : State) (op : Operation) → IsSound m [] → get m.objects op.id ≡ None → AreWithin k (footprint m op) → Kept (AreWithin k (moved m op)) m (step m op).state
  unfolding step footprint moved
  step_parts m op sound new c =
      carried_kept m op.id (row op (view_of m op.thread op.kind)) (row_carriable m op sound new)
      (within_back k (member_keys m (members (scope_of op.thread m.scopes) op.kind)) _ (within_back k (scope_keys op.thread op.kind) _ c))

  -- and no count changes of what it neither touches nor moves
  pub step_kept : (m : State) (op : Operation) → IsSound m [] → get m.objects op.id ≡ None → AreWithin k (footprint m op)
      → IsKeptOutside k m (step m op).state × (AreWithin k (moved m op) → AreCountsKeptOutside k m (step m op).state)
  step_kept m op sound new c =
      let r : Kept (AreWithin k (moved m op)) m (step m op).state = step_parts m op sound new c in (
        record {
          handles = r.handles;
          cells = r.cells;
          entries = r.entries;
          within_scopes = λ t. scope_others k m.scopes (step m op).state.scopes m.scopes (step m op).state.scopes t (step_alike k m m op c (alike_self m)).steps.scopes;
        },
        λ v. record {
          strongs = λ o d. omega (arith, r.weights v (names_alike (Strong o)) (strong_apart o d));
          weaks = λ o d. omega (arith, r.weights v (names_alike (Weak o)) (weak_apart o d));
        },
      )

  -- ---- all operations
  -- what is kept by two replays in turn is kept by both
  kept_both : (a b c : State) → IsKeptOutside k a b → IsKeptOutside k b c → IsKeptOutside k a c
  kept_both a b c p q = record {
    handles = λ h d. q.handles h d ∙ p.handles h d;
    cells = λ e d. q.cells e d ∙ p.cells e d;
    entries = λ o d. q.entries o d ∙ p.entries o d;
    within_scopes = λ t. q.within_scopes t ∙ p.within_scopes t;
  }

  -- so are counts
  counts_both : (a b c : State) → AreCountsKeptOutside k a b → AreCountsKeptOutside k b c → AreCountsKeptOutside k a c
  counts_both a b c p q = record { strongs = λ o d. q.strongs o d ∙ p.strongs o d; weaks = λ o d. q.weaks o d ∙ p.weaks o d }

  -- operations in turn set nothing outside of their footprints, and no count changes of what none of them touches or moves
  pub run_kept : (ops : List Operation) (m : State) → IsSound m [] → AreNew m ops → AreWithin k (footprints_from m ops)
      → IsKeptOutside k m (end_from m ops) × (AreWithin k (moved_from m ops) → AreCountsKeptOutside k m (end_from m ops))
  run_kept [] m sound new c =
      (record { handles = λ h d. refl; cells = λ e d. refl; entries = λ o d. refl; within_scopes = λ t. refl }, λ v. record { strongs = λ o d. refl; weaks = λ o d. refl })
  run_kept (op ∷ ops) m sound new c =
      let first = step_kept m op sound new.0 (within_front k (footprint m op) _ c) in
      let rest = run_kept ops (step m op).state (step_sound m op sound new.0) new.1 (within_back k (footprint m op) _ c) in (
        kept_both m (step m op).state (end_from m (op ∷ ops)) first.0 rest.0,
        λ v. counts_both m (step m op).state (end_from m (op ∷ ops)) (first.1 (within_front k (moved m op) _ v)) (rest.1 (within_back k (moved m op) _ v)),
      )
