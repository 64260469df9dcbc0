-- No place gains or loses an Arc to an object that operations neither touch nor move.
use Rattle.std.proofs.Common.{◌≡◌, ℕ, suc, zero, ◌+◌, ◌≤◌, List, [], ◌∷◌, map, refl, ap, ◌∙◌, sym, arith, Bool, true, false}
use Rattle.std.specs.Prelude.{Option, Some, None, ◌==◌, ◌&&◌, if◌then◌else◌, flat_map, slice_get}
use Rattle.std.specs.Ordering.{nat_cmp}
use Rattle.std.specs.FinMap.{FinMap, get, insert, remove}
use Rattle.trace_types.specs.declared.slots.Slot.{Slot}
use Rattle.trace_types.specs.declared.slots.Slot.TheVariants.{Nothing, Strong, Weak, Dangling}
use Rattle.trace_types.specs.declared.slots.Entry.{Entry}
use Rattle.trace_types.specs.declared.slots.Entry.TheVariants.{Alive, Husk}
use Rattle.trace_types.specs.declared.slots.Item.{Item}
use Rattle.trace_types.specs.declared.slots.Item.TheVariants as item
use Rattle.trace_types.specs.declared.slots.Change.{Change}
use Rattle.trace_types.specs.declared.slots.Change.TheVariants.{SetHandle, EndHandle, SetCell, EndCell, SetField, Make, TurnHusk}
use Rattle.trace_types.specs.Operation.{Operation}
use Rattle.ownership_model.specs.declared.plan.Plan.{Plan}
use Rattle.ownership_model.specs.declared.plan.Plan.TheVariants.{Skip, Act}
use Rattle.ownership_model.specs.State.{State, strong, weak, ends, holding_weight, entry_weight, names_alike, IsSound, AreCountsSound, IsSoundAt}
use Rattle.ownership_model.specs.Release.{Fate, Stays, Goes, fate, fall, drops, left_by, drop_first, release, release_within, work, is_husk}
use Rattle.ownership_model.specs.Changes.{changed, changed_by, with_field, CanBeDone, CanChange}
use Rattle.ownership_model.specs.Carry.{IsCarriable}
use Rattle.ownership_model.specs.Scopes.{scope_of}
use Rattle.ownership_model.specs.View.{members, view_of}
use Rattle.ownership_model.specs.Table.{row, fields_of}
use Rattle.ownership_model.specs.Step.{step, carried_out, end_from, AreNew}
use Rattle.ownership_model.specs.declared.key.Key.{Key}
use Rattle.ownership_model.specs.declared.key.Key.TheVariants.{Handle, Cell, Object, Scope}
use Rattle.ownership_model.specs.Alike.{AreWithin}
use Rattle.ownership_model.specs.Footprint.{slot_keys, slots_keys, holding_keys, item_keys, taken_within, taken, change_key, moved_by, moved_by_changes, member_keys, scope_keys, plan_keys, footprint, moved_by_plan, moved, footprints_from, moved_from}
use Rattle.ownership_model.specs.Near.{weight_of_key}
use Rattle.ownership_model.specs.NearLaws.{PlacesKeepArcs}
use Rattle.ownership_model.proofs.TotalLemmas.{weight_at}
use Rattle.ownership_model.proofs.MapLemmas.{get_inserted, get_removed}
use Rattle.ownership_model.proofs.CountLemmas.{same_number, at}
use Rattle.ownership_model.proofs.ReleaseLemmas.{either, work_drops}
use Rattle.ownership_model.proofs.DropLemmas.{decide, all_three, end_husk, self_end, sound-drop_first}
use Rattle.ownership_model.proofs.CarryLemmas.{row_carriable, step_sound}
use Rattle.ownership_model.proofs.JoinedLemmas as joined
use Rattle.ownership_model.proofs.AlikeLemmas.{within_front, within_back}
use Rattle.ownership_model.proofs.OutsideLemmas.{IsApart, strong_apart, holding_apart, cell_apart, entry_apart, slots_apart, field_apart, both, husk_weight, within_kept}

-- ---- maps
module _ {X : Type 0} (f : X → ℕ) (a : FinMap nat_cmp X) (o : ℕ) where
  -- what is put at one number weighs what stood there
  put_at : (x : X) (q : ℕ) (b : Bool) → f x ≡ weight_at f (get a o) → (o == q) ≡ b → weight_at f (if b then Some x else get a q) ≡ weight_at f (get a q)
  put_at x q true same is = same ∙ ap (λ y. weight_at f (get a y)) (same_number o q is)
  put_at x q false same is = refl

  -- so each number weighs what it weighed
  put_still : (x : X) → f x ≡ weight_at f (get a o) → (q : ℕ) → weight_at f (get (insert a o x) q) ≡ weight_at f (get a q)
  put_still x same q = ap (weight_at f) (get_inserted a o x q) ∙ put_at x q (o == q) same refl

  -- what is taken out at one number weighs nothing
  cut_at : (q : ℕ) (b : Bool) → weight_at f (get a o) ≡ 0 → (o == q) ≡ b → weight_at f (if b then None else get a q) ≡ weight_at f (get a q)
  cut_at q true none is = sym none ∙ ap (λ y. weight_at f (get a y)) (same_number o q is)
  cut_at q false none is = refl

  -- so each number weighs what it weighed
  cut_still : weight_at f (get a o) ≡ 0 → (q : ℕ) → weight_at f (get (remove a o) q) ≡ weight_at f (get a q)
  cut_still none q = ap (weight_at f) (get_removed a o q) ∙ cut_at q (o == q) none refl

module _ (k : Key → Bool) (w : Slot → ℕ) (none : IsApart k w) where
  -- each place weighs what it weighed
  abbrev IsStill : State → State → Type 0
  IsStill m later = (x : Key) → weight_of_key w later x ≡ weight_of_key w m x

  -- it does where that is so twice in turn
  still_then : (a b c : State) → IsStill a b → IsStill b c → IsStill a c
  still_then a b c p q = λ x. q x ∙ p x

  -- ---- changes
  -- it does where an object is set to what weighs what stood there
  still_put : (m : State) (o : ℕ) (e : Entry) → entry_weight w e ≡ weight_at (entry_weight w) (get m.objects o) → IsStill m (record m { objects = insert m.objects o e })
  still_put m o e same (Handle h) = refl
  still_put m o e same (Cell c) = refl
  still_put m o e same (Object q) = put_still (entry_weight w) m.objects o e same q
  still_put m o e same (Scope t) = refl

  -- and where an object is gone that weighed nothing
  still_cut : (m : State) (o : ℕ) → weight_at (entry_weight w) (get m.objects o) ≡ 0 → IsStill m (record m { objects = remove m.objects o })
  still_cut m o light (Handle h) = refl
  still_cut m o light (Cell c) = refl
  still_cut m o light (Object q) = cut_still (entry_weight w) m.objects o light q
  still_cut m o light (Scope t) = refl

  -- a change puts in its place what weighs nothing, where nothing weighed
  change_still : (c : Change) (m : State) → CanBeDone m c → AreWithin k (moved_by m c) → IsStill m (changed_by m c)
  change_still (SetHandle t h x) m can v (Handle q) = put_still (holding_weight w) m.handles h x
      (holding_apart k w none (Some x) (within_front k (holding_keys (Some x)) _ v) ∙ sym (holding_apart k w none (get m.handles h) (within_back k (holding_keys (Some x)) _ v))) q
  change_still (SetHandle t h x) m can v (Cell e) = refl
  change_still (SetHandle t h x) m can v (Object o) = refl
  change_still (SetHandle t h x) m can v (Scope u) = refl
  change_still (EndHandle h) m can v (Handle q) = cut_still (holding_weight w) m.handles h (holding_apart k w none (get m.handles h) v) q
  change_still (EndHandle h) m can v (Cell e) = refl
  change_still (EndHandle h) m can v (Object o) = refl
  change_still (EndHandle h) m can v (Scope u) = refl
  change_still (SetCell e s) m can v (Handle h) = refl
  change_still (SetCell e s) m can v (Cell q) = put_still w m.cells e s
      (none s (within_front k (slot_keys s) _ v) ∙ sym (cell_apart k w none (get m.cells e) (within_back k (slot_keys s) _ v))) q
  change_still (SetCell e s) m can v (Object o) = refl
  change_still (SetCell e s) m can v (Scope u) = refl
  change_still (EndCell e) m can v (Handle h) = refl
  change_still (EndCell e) m can v (Cell q) = cut_still w m.cells e (cell_apart k w none (get m.cells e) v) q
  change_still (EndCell e) m can v (Object o) = refl
  change_still (EndCell e) m can v (Scope u) = refl
  change_still (SetField o i s) m can v x = still_put m o (with_field (get m.objects o) i s)
      (field_apart k w none (get m.objects o) i s (none s (within_front k (slot_keys s) _ v)) (cell_apart k w none (slice_get (fields_of (get m.objects o)) i) (within_back k (slot_keys s) _ v))) x
  change_still (Make o fields) m can v x = still_put m o (Alive fields) (slots_apart k w none fields v ∙ sym (ap (weight_at (entry_weight w)) can)) x
  change_still (TurnHusk o) m can v x = still_put m o Husk (sym (entry_apart k w none (get m.objects o) v)) x

  -- so do changes, one after another
  changes_still : (cs : List Change) (m : State) → CanChange m cs → AreWithin k (moved_by_changes m cs) → IsStill m (changed m cs)
  changes_still [] m can v = λ x. refl
  changes_still (c ∷ cs) m can v = still_then m (changed_by m c) (changed m (c ∷ cs))
      (change_still c m can.0 (within_front k (moved_by m c) _ v)) (changes_still cs (changed_by m c) can.1 (within_back k (moved_by m c) _ v))

  -- ---- a cascade
  -- the fields of a value are among all that is then pending
  fields_front : (fields : List Slot) (p : List Item) → AreWithin k (flat_map item_keys (drops fields p)) → AreWithin k (slots_keys fields)
  fields_front [] p c = tt
  fields_front (s ∷ fields) p c = both k (slot_keys s) _ (within_front k (slot_keys s) _ c) (fields_front fields p (within_back k (slot_keys s) _ c))

  module _ (m : State) (xs : List Item) where
    -- where all that is left pending is of the set, each place weighs what it weighed
    abbrev LeavesStill : Fate → Type 0
    LeavesStill f = AreWithin k (flat_map item_keys (left_by m xs f).pending) → IsStill m (left_by m xs f).state

    -- a value that falls leaves its fields pending, so they weigh nothing
    fall_still : (o : ℕ) (e : Option Entry) → get m.objects o ≡ e → LeavesStill (fall o e)
    fall_still o None is c = λ x. refl
    fall_still o (Some Husk) is c = λ x. refl
    fall_still o (Some (Alive fields)) is c = still_put m o Husk (sym (ap (weight_at (entry_weight w)) is ∙ slots_apart k w none fields (fields_front fields (item.End o ∷ xs) c)))

    -- a husk that goes weighs nothing
    go_still : (o : ℕ) → is_husk (get m.objects o) ≡ true → LeavesStill (Goes o)
    go_still o husk c = still_cut m o (husk_weight m xs w (get m.objects o) husk)

    -- so it is for each item
    drop_still : (x : Item) → AreCountsSound m (x ∷ xs) → LeavesStill (fate m x xs)
    drop_still (item.Slot Nothing) h = λ c x. refl
    drop_still (item.Slot Dangling) h = λ c x. refl
    drop_still (item.Slot (Strong o)) h = either LeavesStill (strong m xs o == 0) (fall o (get m.objects o)) Stays (fall_still o (get m.objects o) refl) (λ c x. refl)
    drop_still (item.Slot (Weak o)) h = decide LeavesStill (weak m xs o == 0 && (is_husk (get m.objects o) && (ends o xs == 0))) (Goes o) Stays
        (λ t. go_still o (all_three m xs (weak m xs o) (ends o xs) (is_husk (get m.objects o)) t).1) (λ f c x. refl)
    drop_still (item.End o) h =
        let here : IsSoundAt (strong m xs o) (weak m xs o) (1 + ends o xs) (get m.objects o) =
        at _ _ _ (strong m xs o) (weak m xs o) ((if o == o then 1 else 0) + ends o xs) _ (get m.objects o) refl refl (self_end m xs o (ends o xs)) refl (h o) in
        either LeavesStill (weak m xs o == 0) (Goes o) Stays (go_still o (end_husk m xs (strong m xs o) (weak m xs o) (ends o xs) (get m.objects o) here)) (λ c x. refl)

  -- item by item, with any fuel that is enough
  within_still : (f : ℕ) (m : State) (p : List Item) → work m p ≤ f → IsSound m p → AreWithin k (flat_map item_keys (taken_within f m p)) → IsStill m (release_within f m p).state
  within_still f m [] g h c = λ x. refl
  within_still zero m (x ∷ xs) g h c = absurd (omega arith)
  within_still (suc f) m (x ∷ xs) g h c =
      let d = drop_first m x xs in
      let enough : work d.state d.pending ≤ f = omega (arith, work_drops m x xs) in
      let sound : IsSound d.state d.pending = sound-drop_first m x xs h in
      let rest : AreWithin k (flat_map item_keys (taken_within f d.state d.pending)) = within_back k (item_keys x) _ c in
      still_then m d.state (release_within f d.state d.pending).state
      (drop_still m xs x h.counts (within_kept k f d.state d.pending enough sound rest).pending) (within_still f d.state d.pending enough sound rest)

  -- so it is for a whole cascade
  release_still : (m : State) (p : List Item) → IsSound m p → AreWithin k (flat_map item_keys (taken m p)) → IsStill m (release m p).state
  unfolding release taken
  release_still m p h c = within_still (work m p) m p (omega arith) h c

  -- ---- operations
  -- a plan that touches and moves what is of the set
  carried_still : (m : State) (id : ℕ) (p : Plan) → IsCarriable m p → AreWithin k (plan_keys m p) → AreWithin k (moved_by_plan m p) → IsStill m (carried_out m id p).state
  carried_still m id (Skip why) can c v = λ x. refl
  carried_still m id (Act answer changes event pending object) can c v =
      still_then m (changed m changes) (release (changed m changes) pending).state (changes_still changes m can.0 v)
      (release_still (changed m changes) pending can.1 (within_front k (flat_map item_keys (taken (changed m changes) pending)) _ (within_back k (map change_key changes) _ c)))

  -- so does an operation
  step_still : (m : State) (op : Operation) → IsSound m [] → get m.objects op.id ≡ None → AreWithin k (footprint m op) → AreWithin k (moved m op) → IsStill m (step m op).state
  unfolding step footprint moved
  step_still m op sound new c v =
      carried_still m op.id (row op (view_of m op.thread op.kind)) (row_carriable m op sound new)
      (within_back k (member_keys m (members (scope_of op.thread m.scopes) op.kind)) _ (within_back k (scope_keys op.thread op.kind) _ c)) v

  -- so do all of them in turn
  run_still : (ops : List Operation) (m : State) → IsSound m [] → AreNew m ops → AreWithin k (footprints_from m ops) → AreWithin k (moved_from m ops) → IsStill m (end_from m ops)
  run_still [] m sound new c v = λ x. refl
  run_still (op ∷ ops) m sound new c v = still_then m (step m op).state (end_from m (op ∷ ops))
      (step_still m op sound new.0 (within_front k (footprint m op) _ c) (within_front k (moved m op) _ v))
      (run_still ops (step m op).state (step_sound m op sound new.0) new.1 (within_back k (footprint m op) _ c) (within_back k (moved m op) _ v))

-- the law: an Arc to an object outside of the set names nothing of the set
pub places_kept : PlacesKeepArcs
places_kept k m ops sound distinct unused c o outside =
    run_still k (names_alike (Strong o)) (strong_apart k o outside) ops m sound (joined.replays m ops sound distinct unused).0
    (within_front k (footprints_from m ops) _ c) (within_back k (footprints_from m ops) _ c)
