-- Two states that are alike but for some objects do alike, where nothing is read of these objects that differs, and none of them falls.
use Rattle.std.proofs.Common.{◌≡◌, ℕ, ◌+◌, List, [], ◌∷◌, ◌++◌, map, refl, ap, ◌∙◌, sym, subst, arith, true, false}
use Rattle.std.specs.Prelude.{Option, Some, None, ◌⊎◌, ◌-◌, flat_map, option_to_list}
use Rattle.std.specs.FinMap.{get, insert, remove}
use mathlib.Core.Logic.{⊎_elim, inl, inr}
use Rattle.trace_types.specs.declared.slots.Slot.{Slot}
use Rattle.trace_types.specs.declared.slots.Slot.TheVariants.{Strong, Weak}
use Rattle.trace_types.specs.declared.slots.Holding.{Holding}
use Rattle.trace_types.specs.declared.slots.Entry.{Entry}
use Rattle.trace_types.specs.declared.slots.Entry.TheVariants.{Alive, Husk}
use Rattle.trace_types.specs.declared.slots.Change.{Change}
use Rattle.trace_types.specs.declared.slots.Change.TheVariants.{SetHandle, EndHandle, SetCell, EndCell, SetField, Make, TurnHusk}
use Rattle.trace_types.specs.declared.slots.Scoped.{Scoped}
use Rattle.trace_types.specs.declared.kinds.Kind.{Kind}
use Rattle.trace_types.specs.declared.kinds.Kind.TheVariants as kind
use Rattle.trace_types.specs.declared.outcomes.Event.{Event}
use Rattle.trace_types.specs.declared.outcomes.Verdict.TheVariants.{Did}
use Rattle.trace_types.specs.Operation.{Operation}
use Rattle.ownership_model.specs.declared.plan.Plan.{Plan}
use Rattle.ownership_model.specs.declared.plan.Plan.TheVariants.{Skip, Act}
use Rattle.ownership_model.specs.Scopes.{scope_of, kept_or_entered, left}
use Rattle.ownership_model.specs.State.{State, strong, weak, holding_weight, names_alike, IsSound}
use Rattle.ownership_model.specs.Release.{release}
use Rattle.ownership_model.specs.Changes.{changed, changed_by, with_field}
use Rattle.ownership_model.specs.Carry.{IsCarriable}
use Rattle.ownership_model.specs.View.{Members, members, View, Seen, held_by, cell_of, elements_of, held_fields, named_in, seen, view_at, view_of}
use Rattle.ownership_model.specs.Table.{row}
use Rattle.ownership_model.specs.Step.{step, carried_out, counts_of, outcomes_from, end_from, AreNew}
use Rattle.ownership_model.specs.Touched.{event_object}
use Rattle.ownership_model.specs.declared.key.Key.TheVariants.{Handle, Cell, Object, Scope}
use Rattle.ownership_model.specs.Alike.{AreWithin, WeightsMoveAlike, ScopesMoveAlike}
use Rattle.ownership_model.specs.Footprint.{item_keys, slot_keys, cell_keys, taken, change_key, moved_by, moved_by_changes, named_keys, member_keys, scope_keys, plan_keys, footprint, moved_by_plan, moved, footprints_from, moved_from}
use Rattle.ownership_model.specs.Sets.{set_by_plan, set_by, sets_from}
use Rattle.ownership_model.specs.Near.{AreEntriesNear, IsBlind, AreBlindFrom, recounted_counts, recounted}
use Rattle.ownership_model.specs.NearLaws.{NearHolds}
use Rattle.ownership_model.proofs.Twins.{IfThere}
use Rattle.ownership_model.proofs.TotalLemmas.{weight_at}
use Rattle.ownership_model.proofs.CountLemmas.{get_set_other, get_cut_other}
use Rattle.ownership_model.proofs.CarryLemmas.{row_carriable, step_sound}
use Rattle.ownership_model.proofs.ScopeMoves.{scope_none, scope_set, scope_end}
use Rattle.ownership_model.proofs.JoinedLemmas as joined
use Rattle.ownership_model.proofs.AlikeLemmas.{within_front, within_back, have, move_none, move_then}
use Rattle.ownership_model.proofs.AlikeSteps.{change_alike, moved_alike, held_alike, cell_alike, elements_alike, members_alike}
use Rattle.ownership_model.proofs.OutsideLemmas.{apart}
use Rattle.ownership_model.proofs.NearLemmas as near
use Rattle.ownership_model.proofs.NearLemmas.{Frame, Fit, Goes}
use Rattle.ownership_model.proofs.NearOthers.{StepsNear, within_others, step_others}
use Rattle.ownership_model.proofs.NearDrops.{all_front, all_back, AreSpared, SameEnd, release_near}
use Rattle.ownership_model.proofs.NearRows.{IsFirm, AllFirm, IsBlindPlan, IsFirmPlan, row_near, row_firm}

module _ (r : Frame) where
  -- ---- changes
  -- a handle or a cell is set, or ends: the places that are not set weigh what they weighed
  still_set : (n : State) (h : ℕ) (x : Holding) (ss : List Scoped) → r.set (Handle h) ≡ true → near.IsStill r n (record n { handles = insert n.handles h x; scopes = ss })
  still_set n h x ss c w (Handle q) d = ap (weight_at (holding_weight w)) (get_set_other n.handles h x q (apart (λ y. r.set (Handle y)) h q c d))
  still_set n h x ss c w (Cell e) d = refl
  still_set n h x ss c w (Object o) d = refl
  still_set n h x ss c w (Scope t) d = refl

  still_end : (n : State) (h : ℕ) (ss : List Scoped) → r.set (Handle h) ≡ true → near.IsStill r n (record n { handles = remove n.handles h; scopes = ss })
  still_end n h ss c w (Handle q) d = ap (weight_at (holding_weight w)) (get_cut_other n.handles h q (apart (λ y. r.set (Handle y)) h q c d))
  still_end n h ss c w (Cell e) d = refl
  still_end n h ss c w (Object o) d = refl
  still_end n h ss c w (Scope t) d = refl

  still_cell : (n : State) (e : ℕ) (x : Slot) → r.set (Cell e) ≡ true → near.IsStill r n (record n { cells = insert n.cells e x })
  still_cell n e x c w (Handle q) d = refl
  still_cell n e x c w (Cell q) d = ap (weight_at w) (get_set_other n.cells e x q (apart (λ y. r.set (Cell y)) e q c d))
  still_cell n e x c w (Object o) d = refl
  still_cell n e x c w (Scope t) d = refl

  still_no_cell : (n : State) (e : ℕ) → r.set (Cell e) ≡ true → near.IsStill r n (record n { cells = remove n.cells e })
  still_no_cell n e c w (Handle q) d = refl
  still_no_cell n e c w (Cell q) d = ap (weight_at w) (get_cut_other n.cells e q (apart (λ y. r.set (Cell y)) e q c d))
  still_no_cell n e c w (Object o) d = refl
  still_no_cell n e c w (Scope t) d = refl

  -- both have made a change alike, and moved the same slots
  record Met (m n : State) (c : Change) : Type 0 where
    pub goes : Goes r m (changed_by m c) n (changed_by n c)
    pub moved : moved_by m c ≡ moved_by n c

  -- what is touched and no object that is near is alike
  alike_of : (o : ℕ) → r.touched (Object o) ≡ true → r.a o ≡ false → r.k (Object o) ≡ true
  alike_of o t c = ⊎_elim (λ alike. alike) (λ close. absurd cc) (near.object_within r o t)

  -- a change of a place that is touched and set is made alike in both, if it is firm
  change_near : (c : Change) (m n : State) → r.touched (change_key c) ≡ true → r.set (change_key c) ≡ true → IsFirm r.a r.loose c → Fit r m n → Met m n c
  change_near (SetHandle t h x) m n c p firm f =
      let one = change_alike r.k (SetHandle t h x) m n (near.handle_within r h c) (have r.k m n f.alike) in
      let s : ScopesMoveAlike r.touched m.scopes (kept_or_entered (get m.handles h) t h m.scopes) n.scopes (kept_or_entered (get n.handles h) t h n.scopes) =
      subst (λ (y : Option Holding). ScopesMoveAlike r.touched m.scopes (kept_or_entered (get m.handles h) t h m.scopes) n.scopes (kept_or_entered y t h n.scopes)) (f.alike.handles h (near.handle_within r h c))
      (scope_set r.touched (get m.handles h) t h m.scopes n.scopes c) in
      record {
        goes = record { have = one.have; near = f.near; moves = one.moves; scopes = s; still = still_set n h x (kept_or_entered (get n.handles h) t h n.scopes) p; kept = λ o i d l. refl };
        moved = moved_alike r.k (SetHandle t h x) m n (near.handle_within r h c) (have r.k m n f.alike);
      }
  change_near (EndHandle h) m n c p firm f =
      let one = change_alike r.k (EndHandle h) m n (near.handle_within r h c) (have r.k m n f.alike) in
      record {
        goes = record { have = one.have; near = f.near; moves = one.moves; scopes = scope_end r.touched h m.scopes n.scopes c; still = still_end n h (left h n.scopes) p; kept = λ o i d l. refl };
        moved = moved_alike r.k (EndHandle h) m n (near.handle_within r h c) (have r.k m n f.alike);
      }
  change_near (SetCell e x) m n c p firm f =
      let one = change_alike r.k (SetCell e x) m n (near.cell_within r e c) (have r.k m n f.alike) in
      record {
        goes = record { have = one.have; near = f.near; moves = one.moves; scopes = scope_none r.touched m.scopes n.scopes; still = still_cell n e x p; kept = λ o i d l. refl };
        moved = moved_alike r.k (SetCell e x) m n (near.cell_within r e c) (have r.k m n f.alike);
      }
  change_near (EndCell e) m n c p firm f =
      let one = change_alike r.k (EndCell e) m n (near.cell_within r e c) (have r.k m n f.alike) in
      record {
        goes = record { have = one.have; near = f.near; moves = one.moves; scopes = scope_none r.touched m.scopes n.scopes; still = still_no_cell n e p; kept = λ o i d l. refl };
        moved = moved_alike r.k (EndCell e) m n (near.cell_within r e c) (have r.k m n f.alike);
      }
  change_near (SetField o i s) m n c p firm f = ⊎_elim
      (λ alike. record {
        goes = subst (λ (y : Option Entry). Goes r m (record m { objects = insert m.objects o (with_field (get m.objects o) i s) }) n (record n { objects = insert n.objects o (with_field y i s) })) (f.alike.entries o alike)
            (near.goes_put r m n o (with_field (get m.objects o) i s) alike p (have r.k m n f.alike) f.near);
        moved = moved_alike r.k (SetField o i s) m n alike (have r.k m n f.alike);
      })
      (λ close. record {
        goes = near.goes_set r m n o i s close (firm close) p (have r.k m n f.alike) f.near;
        moved = ap (λ y. slot_keys s ++ cell_keys y) (near.field_same (r.loose o) (get m.objects o) (get n.objects o) i (f.near o close) (firm close));
      })
      (near.object_within r o c)
  change_near (Make o fields) m n c p firm f = record { goes = near.goes_put r m n o (Alive fields) (alike_of o c firm) p (have r.k m n f.alike) f.near; moved = refl }
  change_near (TurnHusk o) m n c p firm f = record {
    goes = near.goes_put r m n o Husk (alike_of o c firm) p (have r.k m n f.alike) f.near;
    moved = moved_alike r.k (TurnHusk o) m n (alike_of o c firm) (have r.k m n f.alike);
  }

  -- both have made all changes alike
  record Changed (m n : State) (cs : List Change) : Type 0 where
    pub goes : Goes r m (changed m cs) n (changed n cs)
    pub moved : moved_by_changes m cs ≡ moved_by_changes n cs

  -- firm changes of places that are touched and set are made alike, one after another
  changes_near : (cs : List Change) (m n : State) → AreWithin r.touched (map change_key cs) → AreWithin r.set (map change_key cs) → AllFirm r.a r.loose cs → Fit r m n → Changed m n cs
  changes_near [] m n c t firm f = record { goes = near.goes_none r m n (have r.k m n f.alike) f.near; moved = refl }
  changes_near (d ∷ cs) m n c t firm f =
      let one : Met m n d = change_near d m n c.0 t.0 firm.0 f in
      let rest : Changed (changed_by m d) (changed_by n d) cs = changes_near cs (changed_by m d) (changed_by n d) c.1 t.1 firm.1 (near.fit_after r m (changed_by m d) n (changed_by n d) f one.goes) in
      record {
        goes = near.goes_then r m (changed_by m d) (changed m (d ∷ cs)) n (changed_by n d) (changed n (d ∷ cs)) one.goes rest.goes;
        moved = λ i. one.moved i ++ rest.moved i;
      }

  -- ---- what an operation reads
  -- the handles, cells and scopes that are touched are alike
  handles_within : (hs : List ℕ) → AreWithin r.touched (map Handle hs) → AreWithin r.k (map Handle hs)
  handles_within [] c = tt
  handles_within (h ∷ hs) c = (near.handle_within r h c.0, handles_within hs c.1)

  cells_within : (es : List ℕ) → AreWithin r.touched (map Cell es) → AreWithin r.k (map Cell es)
  cells_within [] c = tt
  cells_within (e ∷ es) c = (near.cell_within r e c.0, cells_within es c.1)

  scopes_within : (t : ℕ) (kd : Kind) → AreWithin r.touched (scope_keys t kd) → AreWithin r.k (scope_keys t kd)
  scopes_within t kind.ScopeEnd c = (near.scope_within r t c.0, tt)
  scopes_within t kd c = tt

  -- what is known of the object that is named
  abbrev IsNamedNear : Option ℕ → Seen → Seen → Type 0
  IsNamedNear o x y = IfThere (λ q. (r.a q ≡ true) × AreEntriesNear (r.loose q) x.entry y.entry) o

  -- an object that is touched is seen alike, with its counts, or near
  seen_near : (m n : State) (o : Option ℕ) → Fit r m n → AreWithin r.touched (map Object (option_to_list o)) → (seen m o ≡ seen n o) ⊎ IsNamedNear o (seen m o) (seen n o)
  seen_near m n None f c = inl refl
  seen_near m n (Some o) f c = ⊎_elim
      (λ alike. inl (λ i. record { entry = f.alike.entries o alike i; strong = f.alike.strongs o alike i; weak = f.alike.weaks o alike i }))
      (λ close. inr (close, f.near o close)) (near.object_within r o c.0)

  -- a row gives one plan, whether the object is seen alike or near
  seen_row : (op : Operation) (v : View) (y : Seen) → (v.object ≡ y) ⊎ IsNamedNear (named_in v.first) v.object y → IsBlindPlan r.a r.loose op.kind (row op v) → row op v ≡ row op (record v { object = y })
  seen_row op v y c b = ⊎_elim (λ same. ap (λ z. row op (record v { object = z })) same) (λ close. row_near r.a r.loose op v y close b) c

  -- both views give one plan, and read the same keys
  record RowsAlike (m n : State) (op : Operation) (x : Members) : Type 0 where
    pub rows : row op (view_at m x) ≡ row op (view_at n x)
    pub keys : member_keys m x ≡ member_keys n x

  rows_alike : (m n : State) (op : Operation) (x : Members) → Fit r m n → AreWithin r.touched (member_keys m x) → IsBlindPlan r.a r.loose op.kind (row op (view_at m x)) → RowsAlike m n op x
  rows_alike m n op x f c b =
      let names = within_front r.touched (named_keys x) _ c in
      let object = within_back r.touched (named_keys x) _ c in
      let past_first = within_back r.touched (map Handle (option_to_list x.first)) _ names in
      let past_second = within_back r.touched (map Handle (option_to_list x.second)) _ past_first in
      let first : held_by m x.first ≡ held_by n x.first = held_alike r.k m n x.first f.alike (handles_within (option_to_list x.first) (within_front r.touched (map Handle (option_to_list x.first)) _ names)) in
      let second : held_by m x.second ≡ held_by n x.second = held_alike r.k m n x.second f.alike (handles_within (option_to_list x.second) (within_front r.touched (map Handle (option_to_list x.second)) _ past_first)) in
      let elements : elements_of m x.fields ≡ elements_of n x.fields =
      elements_alike r.k m n x.fields f.alike (handles_within (held_fields x.fields) (within_front r.touched (map Handle (held_fields x.fields)) _ past_second)) in
      let cell : cell_of m x.cell ≡ cell_of n x.cell = cell_alike r.k m n x.cell f.alike (cells_within (option_to_list x.cell) (within_back r.touched (map Handle (held_fields x.fields)) _ past_second)) in
      let there : Seen = seen n (named_in (held_by m x.first)) in
      let plain : row op (view_at m x) ≡ row op (record (view_at m x) { object = there }) = seen_row op (view_at m x) there (seen_near m n (named_in (held_by m x.first)) f object) b in
      record {
        rows = plain ∙ (λ i. row op (record { first = first i; second = second i; cell = cell i; elements = elements i; object = seen n (named_in (first i)) }));
        keys = ap (λ y. named_keys x ++ map Object (option_to_list (named_in y))) first;
      }

  -- ---- an operation
  -- counts are told as they were, but for the difference between the states where both began
  told : (a b later_a later_b : State) (o : Option ℕ) → WeightsMoveAlike a later_a b later_b → recounted_counts a b (counts_of later_a o) ≡ counts_of later_b o
  told a b later_a later_b None v = refl
  told a b later_a later_b (Some o) v =
      let strongs : strong later_a [] o + strong b [] o - strong a [] o ≡ strong later_b [] o = omega (arith, v (names_alike (Strong o))) in
      let weaks : weak later_a [] o + weak b [] o - weak a [] o ≡ weak later_b [] o = omega (arith, v (names_alike (Weak o))) in
      λ i. Some (record { object = o; strong = strongs i; weak = weaks i })

  -- what an outcome tells of the plan that was carried out
  first_event : (e : Option Event) → AreSpared r (option_to_list e) → IfThere (λ x. r.a (event_object x) ≡ false) e
  first_event None c = tt
  first_event (Some e) c = c.0

  blind_plan : (m : State) (op : Operation) (p : Plan) → IsBlind r.a r.loose op (carried_out m op.id p).outcome → IsBlindPlan r.a r.loose op.kind p
  blind_plan m op (Skip why) b = tt
  blind_plan m op (Act said changes event pending None) b = (first_event event (all_front (λ y. r.a (event_object y) ≡ false) (option_to_list event) _ b.events), b.copied, tt)
  blind_plan m op (Act said changes event pending (Some o)) b =
      (first_event event (all_front (λ y. r.a (event_object y) ≡ false) (option_to_list event) _ b.events), b.copied, λ close. (b.counts _ refl close, λ i at. b.fields _ i refl close at))

  -- both have carried out a plan alike, and touched and moved the same; a and b are the states where both began
  record Carried (a b m n : State) (id : ℕ) (p q : Plan) : Type 0 where
    pub goes : Goes r m (carried_out m id p).state n (carried_out n id q).state
    pub outcome : recounted a b (carried_out m id p).outcome ≡ (carried_out n id q).outcome
    pub keys : plan_keys m p ≡ plan_keys n q
    pub moved : moved_by_plan m p ≡ moved_by_plan n q

  -- a blind plan whose keys are touched is carried out alike in both
  carried_near : (a b m n : State) (op : Operation) (p : Plan) → WeightsMoveAlike a m b n → IsCarriable m p → AreWithin r.touched (plan_keys m p) → AreWithin r.set (set_by_plan m p) → IsFirmPlan r.a r.loose p
      → IsBlind r.a r.loose op (carried_out m op.id p).outcome → Fit r m n → Carried a b m n op.id p p
  carried_near a b m n op (Skip why) v can c t firm blind f = record { goes = near.goes_none r m n (have r.k m n f.alike) f.near; outcome = refl; keys = refl; moved = refl }
  carried_near a b m n op (Act said changes event pending object) v can c t firm blind f =
      let past = within_back r.touched (map change_key changes) _ c in
      let d : Changed m n changes = changes_near changes m n (within_front r.touched (map change_key changes) _ c) (within_front r.set (map change_key changes) _ t) firm f in
      let e : SameEnd r (changed m changes) (changed n changes) (release (changed m changes) pending) (release (changed n changes) pending) (taken (changed m changes) pending) (taken (changed n changes) pending) =
      release_near r (changed m changes) (changed n changes) pending can.1 (within_front r.touched (flat_map item_keys (taken (changed m changes) pending)) _ past)
      (within_back r.set (map change_key changes) _ t) (all_back (λ y. r.a (event_object y) ≡ false) (option_to_list event) _ blind.events) (near.fit_after r m (changed m changes) n (changed n changes) f d.goes) in
      let goes : Goes r m (release (changed m changes) pending).state n (release (changed n changes) pending).state =
      near.goes_then r m (changed m changes) (release (changed m changes) pending).state n (changed n changes) (release (changed n changes) pending).state d.goes e.goes in
      let counts = told a b (release (changed m changes) pending).state (release (changed n changes) pending).state object
      (move_then a m (release (changed m changes) pending).state b n (release (changed n changes) pending).state v goes.moves) in
      record {
        goes = goes;
        outcome = λ i. record { id = op.id; verdict = Did said; events = option_to_list event ++ e.events i; counts = counts i };
        keys = λ i. map change_key changes ++ (flat_map item_keys (e.taken i) ++ map Object (option_to_list object));
        moved = d.moved;
      }

  -- the number of an operation that makes an object is not that of one that is near
  new_apart : (m n : State) (id : ℕ) → Fit r m n → get m.objects id ≡ None → r.a id ≡ false
  new_apart m n id f new = elim (r.a id) as (λ b. r.a id ≡ b → r.a id ≡ false) [
    | true ↦ λ close. absurd (subst (λ (e : Option Entry). AreEntriesNear (r.loose id) e (get n.objects id)) new (f.near id close))
    | false ↦ λ e. e
  ] refl

  -- the rows give one plan, which is carried out alike
  step_near : (a b m n : State) (op : Operation) → WeightsMoveAlike a m b n → IsSound m [] → get m.objects op.id ≡ None → AreWithin r.touched (footprint m op) → AreWithin r.set (set_by m op)
      → IsBlind r.a r.loose op (step m op).outcome → Fit r m n → StepsNear r a b m n op
  unfolding step footprint moved set_by
  step_near a b m n op v sound new c t blind f =
      let x : Members = members (scope_of op.thread m.scopes) op.kind in
      let p : Plan = row op (view_of m op.thread op.kind) in
      let past = within_back r.touched (scope_keys op.thread op.kind) _ c in
      let same : members (scope_of op.thread m.scopes) op.kind ≡ members (scope_of op.thread n.scopes) op.kind =
      members_alike r.k op.thread op.kind m n f.alike (scopes_within op.thread op.kind (within_front r.touched (scope_keys op.thread op.kind) _ c)) in
      let told_so : IsBlindPlan r.a r.loose op.kind p = blind_plan m op p blind in
      let at : RowsAlike m n op x = rows_alike m n op x f (within_front r.touched (member_keys m x) _ past) told_so in
      let rows : row op (view_of m op.thread op.kind) ≡ row op (view_of n op.thread op.kind) = at.rows ∙ ap (λ z. row op (view_at n z)) same in
      let keys : member_keys m x ≡ member_keys n (members (scope_of op.thread n.scopes) op.kind) = at.keys ∙ ap (member_keys n) same in
      let d : Carried a b m n op.id p (row op (view_of n op.thread op.kind)) =
      subst (λ (q : Plan). Carried a b m n op.id p q) rows
      (carried_near a b m n op p v (row_carriable m op sound new) (within_back r.touched (member_keys m x) _ past) t (row_firm r.a r.loose op (view_of m op.thread op.kind) (new_apart m n op.id f new) told_so) blind f) in
      record {
        goes = d.goes;
        outcome = d.outcome;
        keys = λ i. scope_keys op.thread op.kind ++ (keys i ++ d.keys i);
        moved = d.moved;
      }

  -- ---- all operations
  -- both have carried out all operations alike
  record RunsNear (a b m n : State) (ops : List Operation) : Type 0 where
    pub goes : Goes r m (end_from m ops) n (end_from n ops)
    pub outcomes : map (recounted a b) (outcomes_from m ops) ≡ outcomes_from n ops
    pub keys : footprints_from m ops ≡ footprints_from n ops
    pub moved : moved_from m ops ≡ moved_from n ops

  -- operations that are blind, or touch none of the objects that are near, are carried out alike, one after another
  run_near : (ops : List Operation) (a b m n : State) → WeightsMoveAlike a m b n → IsSound m [] → IsSound n [] → AreNew m ops → AreNew n ops → AreWithin r.touched (footprints_from m ops)
      → AreWithin r.set (sets_from m ops) → AreBlindFrom r.a r.loose m ops → Fit r m n → RunsNear a b m n ops
  run_near [] a b m n v sound sound_too new new_too c t blind f = record { goes = near.goes_none r m n (have r.k m n f.alike) f.near; outcomes = refl; keys = refl; moved = refl }
  run_near (op ∷ ops) a b m n v sound sound_too new new_too c t blind f =
      let within : AreWithin r.touched (footprint m op) = within_front r.touched (footprint m op) _ c in
      let set : AreWithin r.set (set_by m op) = within_front r.set (set_by m op) _ t in
      let d : StepsNear r a b m n op = ⊎_elim
      (λ told. step_near a b m n op v sound new.0 within set told f)
      (λ out. step_others r a b m n op v sound sound_too new.0 new_too.0 (within_others r (footprint m op) within out) set f)
      blind.0 in
      let e : RunsNear a b (step m op).state (step n op).state ops =
      run_near ops a b (step m op).state (step n op).state (move_then a m (step m op).state b n (step n op).state v d.goes.moves) (step_sound m op sound new.0) (step_sound n op sound_too new_too.0) new.1 new_too.1
      (within_back r.touched (footprint m op) _ c) (within_back r.set (set_by m op) _ t) blind.1 (near.fit_after r m (step m op).state n (step n op).state f d.goes) in
      record {
        goes = near.goes_then r m (step m op).state (end_from m (op ∷ ops)) n (step n op).state (end_from n (op ∷ ops)) d.goes e.goes;
        outcomes = λ i. d.outcome i ∷ e.outcomes i;
        keys = λ i. d.keys i ++ e.keys i;
        moved = λ i. d.moved i ++ e.moved i;
      }

-- the law
pub near_holds : NearHolds
near_holds k touched set a loose m n ops apart within close c t blind alive sound sound_too distinct unused unused_too =
    let r : Frame = record { k = k; touched = touched; set = set; a = a; loose = loose; apart = apart; within = within } in
    let f : Fit r m n = record { alike = close.alike; near = close.near; alive = alive } in
    let d = run_near r ops m n m n (move_none m n) sound sound_too (joined.replays m ops sound distinct unused).0 (joined.replays n ops sound_too distinct unused_too).0 c t blind f in
    let later : Fit r (end_from m ops) (end_from n ops) = near.fit_after r m (end_from m ops) n (end_from n ops) f d.goes in
    record {
      outcomes = sym d.outcomes;
      near = record { alike = later.alike; near = later.near };
      weights = d.goes.moves;
      scopes = d.goes.scopes;
      footprints = d.keys;
      moved = d.moved;
      fields = d.goes.kept;
      still = d.goes.still;
    }
