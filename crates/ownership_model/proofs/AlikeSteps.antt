-- Two states that are alike on the footprint of an operation do alike.
use Rattle.std.proofs.Common.{◌≡◌, ℕ, List, [], ◌∷◌, ◌++◌, map, refl, ap, ◌∙◌, sym, subst, arith, Bool, true}
use Rattle.std.specs.Prelude.{Option, Some, None, ◌==◌, if◌then◌else◌, flat_map, option_to_list, slice_get}
use Rattle.std.specs.FinMap.{get, insert}
use Rattle.trace_types.specs.declared.slots.Holding.{Holding}
use Rattle.trace_types.specs.declared.slots.Entry.{Entry}
use Rattle.trace_types.specs.declared.slots.Entry.TheVariants.{Alive, Husk}
use Rattle.trace_types.specs.declared.slots.Change.{Change}
use Rattle.trace_types.specs.declared.slots.Change.TheVariants.{SetHandle, EndHandle, SetCell, EndCell, SetField, Make, TurnHusk}
use Rattle.trace_types.specs.declared.slots.Scoped.{Scoped}
use Rattle.trace_types.specs.declared.kinds.Field.{Field}
use Rattle.trace_types.specs.declared.kinds.Field.TheVariants as field
use Rattle.trace_types.specs.declared.kinds.Kind.{Kind}
use Rattle.trace_types.specs.declared.kinds.Kind.TheVariants as kind
use Rattle.trace_types.specs.declared.outcomes.Verdict.TheVariants.{Did}
use Rattle.trace_types.specs.Operation.{Operation}
use Rattle.ownership_model.specs.declared.plan.Plan.{Plan}
use Rattle.ownership_model.specs.declared.plan.Plan.TheVariants.{Skip, Act}
use Rattle.ownership_model.specs.Scopes.{scope_of, kept_or_entered, left}
use Rattle.ownership_model.specs.State.{State, holding_weight}
use Rattle.ownership_model.specs.Release.{release}
use Rattle.ownership_model.specs.Changes.{changed, changed_by, with_field}
use Rattle.ownership_model.specs.View.{Members, members, Read, Null, Me, View, held_by, cell_of, elements_of, held_fields, named_in, seen, view_at, view_of}
use Rattle.ownership_model.specs.Table.{row, fields_of}
use Rattle.ownership_model.specs.Step.{Stepped, step, carried_out, counts_of, outcomes_from, end_from}
use Rattle.ownership_model.specs.Touched.{event_object}
use Rattle.ownership_model.specs.declared.key.Key.{Key}
use Rattle.ownership_model.specs.declared.key.Key.TheVariants.{Handle, Cell, Object}
use Rattle.ownership_model.specs.Alike.{AreWithin, AreAlike, WeightsMoveAlike, ScopesMoveAlike}
use Rattle.ownership_model.specs.Footprint.{item_keys, holding_keys, cell_keys, slot_keys, slots_keys, taken, change_key, moved_by, moved_by_changes, named_keys, member_keys, scope_keys, plan_keys, footprint, moved_by_plan, moved, footprints_from, moved_from}
use Rattle.ownership_model.specs.Sets.{set_by_plan, set_by}
use Rattle.ownership_model.proofs.TotalLemmas.{weight_at, total-insert, total-remove}
use Rattle.ownership_model.proofs.MapLemmas.{get_inserted, get_removed}
use Rattle.ownership_model.proofs.LeastLemmas.{kept_scopes}
use Rattle.ownership_model.proofs.ScopeMoves.{scope_none, scope_set, scope_end, scope_then, scope_whole, scope_part}
use Rattle.ownership_model.proofs.AlikeLemmas.{within_front, within_back, move_none, move_then, move_put, HaveAlike, have, alike_after, have_put, SameEnd, release_alike}

module _ (k : Key → Bool) where
  -- ---- one change
  -- both have made a change alike
  pub record Met (m n later_m later_n : State) : Type 0 where
    pub have : HaveAlike k later_m later_n
    pub moves : WeightsMoveAlike m later_m n later_n
    pub scopes : ScopesMoveAlike k m.scopes later_m.scopes n.scopes later_n.scopes

  -- a change of a place that is alike is made alike in both
  pub change_alike : (c : Change) (m n : State) → k (change_key c) ≡ true → HaveAlike k m n → Met m n (changed_by m c) (changed_by n c)
  change_alike (SetHandle t h x) m n c a =
      let there : get m.handles h ≡ get n.handles h = a.handles h c in
      let s : ScopesMoveAlike k m.scopes (kept_or_entered (get m.handles h) t h m.scopes) n.scopes (kept_or_entered (get n.handles h) t h n.scopes) =
      subst (λ (y : Option Holding). ScopesMoveAlike k m.scopes (kept_or_entered (get m.handles h) t h m.scopes) n.scopes (kept_or_entered y t h n.scopes)) there (scope_set k (get m.handles h) t h m.scopes n.scopes c) in
      record {
        have = record {
          handles = λ q d. get_inserted m.handles h x q ∙ ap (λ y. if h == q then Some x else y) (a.handles q d) ∙ sym (get_inserted n.handles h x q);
          cells = a.cells;
          entries = a.entries;
          scopes = λ u d. scope_whole k m.scopes _ n.scopes _ u s (a.scopes u d);
          within_scopes = λ u. scope_part k m.scopes _ n.scopes _ u s (a.within_scopes u);
        };
        moves = λ w.
            let at : weight_at (holding_weight w) (get m.handles h) ≡ weight_at (holding_weight w) (get n.handles h) = ap (weight_at (holding_weight w)) there in
            omega (arith, at, total-insert (holding_weight w) m.handles h x, total-insert (holding_weight w) n.handles h x);
        scopes = s;
      }
  change_alike (EndHandle h) m n c a =
      let there : get m.handles h ≡ get n.handles h = a.handles h c in
      let s : ScopesMoveAlike k m.scopes (left h m.scopes) n.scopes (left h n.scopes) = scope_end k h m.scopes n.scopes c in
      record {
        have = record {
          handles = λ q d. get_removed m.handles h q ∙ ap (λ y. if h == q then None else y) (a.handles q d) ∙ sym (get_removed n.handles h q);
          cells = a.cells;
          entries = a.entries;
          scopes = λ u d. scope_whole k m.scopes _ n.scopes _ u s (a.scopes u d);
          within_scopes = λ u. scope_part k m.scopes _ n.scopes _ u s (a.within_scopes u);
        };
        moves = λ w.
            let at : weight_at (holding_weight w) (get m.handles h) ≡ weight_at (holding_weight w) (get n.handles h) = ap (weight_at (holding_weight w)) there in
            omega (arith, at, total-remove (holding_weight w) m.handles h, total-remove (holding_weight w) n.handles h);
        scopes = s;
      }
  change_alike (SetCell e x) m n c a =
      let there : get m.cells e ≡ get n.cells e = a.cells e c in
      record {
        have = record {
          handles = a.handles;
          cells = λ q d. get_inserted m.cells e x q ∙ ap (λ y. if e == q then Some x else y) (a.cells q d) ∙ sym (get_inserted n.cells e x q);
          entries = a.entries;
          scopes = a.scopes;
          within_scopes = a.within_scopes;
        };
        moves = λ w.
            let at : weight_at w (get m.cells e) ≡ weight_at w (get n.cells e) = ap (weight_at w) there in
            omega (arith, at, total-insert w m.cells e x, total-insert w n.cells e x);
        scopes = scope_none k m.scopes n.scopes;
      }
  change_alike (EndCell e) m n c a =
      let there : get m.cells e ≡ get n.cells e = a.cells e c in
      record {
        have = record {
          handles = a.handles;
          cells = λ q d. get_removed m.cells e q ∙ ap (λ y. if e == q then None else y) (a.cells q d) ∙ sym (get_removed n.cells e q);
          entries = a.entries;
          scopes = a.scopes;
          within_scopes = a.within_scopes;
        };
        moves = λ w.
            let at : weight_at w (get m.cells e) ≡ weight_at w (get n.cells e) = ap (weight_at w) there in
            omega (arith, at, total-remove w m.cells e, total-remove w n.cells e);
        scopes = scope_none k m.scopes n.scopes;
      }
  change_alike (SetField o i s) m n c a =
      subst (λ (y : Option Entry). Met m n (record m { objects = insert m.objects o (with_field (get m.objects o) i s) }) (record n { objects = insert n.objects o (with_field y i s) })) (a.entries o c)
      (record { have = have_put k m n o (with_field (get m.objects o) i s) a; moves = move_put m n o (with_field (get m.objects o) i s) (a.entries o c); scopes = scope_none k m.scopes n.scopes })
  change_alike (Make o fields) m n c a = record { have = have_put k m n o (Alive fields) a; moves = move_put m n o (Alive fields) (a.entries o c); scopes = scope_none k m.scopes n.scopes }
  change_alike (TurnHusk o) m n c a = record { have = have_put k m n o Husk a; moves = move_put m n o Husk (a.entries o c); scopes = scope_none k m.scopes n.scopes }

  -- and it moves the same slots
  pub moved_alike : (c : Change) (m n : State) → k (change_key c) ≡ true → HaveAlike k m n → moved_by m c ≡ moved_by n c
  moved_alike (SetHandle t h x) m n c a = ap (λ y. holding_keys (Some x) ++ holding_keys y) (a.handles h c)
  moved_alike (EndHandle h) m n c a = ap holding_keys (a.handles h c)
  moved_alike (SetCell e x) m n c a = ap (λ y. slot_keys x ++ cell_keys y) (a.cells e c)
  moved_alike (EndCell e) m n c a = ap cell_keys (a.cells e c)
  moved_alike (SetField o i s) m n c a = ap (λ y. slot_keys s ++ cell_keys (slice_get (fields_of y) i)) (a.entries o c)
  moved_alike (Make o fields) m n c a = refl
  moved_alike (TurnHusk o) m n c a = ap (λ y. slots_keys (fields_of y)) (a.entries o c)

  -- ---- all changes
  -- both have made all changes alike
  record Changed (m n : State) (cs : List Change) : Type 0 where
    pub alike : AreAlike k (changed m cs) (changed n cs)
    pub moves : WeightsMoveAlike m (changed m cs) n (changed n cs)
    pub scopes : ScopesMoveAlike k m.scopes (changed m cs).scopes n.scopes (changed n cs).scopes
    pub moved : moved_by_changes m cs ≡ moved_by_changes n cs

  -- changes of places that are alike are made alike, one after another
  changed_alike : (cs : List Change) (m n : State) → AreWithin k (map change_key cs) → AreAlike k m n → Changed m n cs
  changed_alike [] m n c a = record { alike = a; moves = move_none m n; scopes = scope_none k m.scopes n.scopes; moved = refl }
  changed_alike (d ∷ cs) m n c a =
      let one : Met m n (changed_by m d) (changed_by n d) = change_alike d m n c.0 (have k m n a) in
      let rest : Changed (changed_by m d) (changed_by n d) cs = changed_alike cs (changed_by m d) (changed_by n d) c.1 (alike_after k m (changed_by m d) n (changed_by n d) a one.have one.moves) in
      record {
        alike = rest.alike;
        moves = move_then m (changed_by m d) (changed m (d ∷ cs)) n (changed_by n d) (changed n (d ∷ cs)) one.moves rest.moves;
        scopes = scope_then k m.scopes (changed_by m d).scopes (changed m (d ∷ cs)).scopes n.scopes (changed_by n d).scopes (changed n (d ∷ cs)).scopes one.scopes rest.scopes;
        moved = λ i. moved_alike d m n c.0 (have k m n a) i ++ rest.moved i;
      }

  -- ---- what an operation reads
  -- a handle of the set, if one is named, holds the same in both
  pub held_alike : (m n : State) (h : Option ℕ) → AreAlike k m n → AreWithin k (map Handle (option_to_list h)) → held_by m h ≡ held_by n h
  held_alike m n None a c = refl
  held_alike m n (Some h) a c = a.handles h c.0

  -- so does a cell
  pub cell_alike : (m n : State) (e : Option ℕ) → AreAlike k m n → AreWithin k (map Cell (option_to_list e)) → cell_of m e ≡ cell_of n e
  cell_alike m n None a c = refl
  cell_alike m n (Some e) a c = a.cells e c.0

  -- so do the handles among fields
  pub elements_alike : (m n : State) (fs : List Field) → AreAlike k m n → AreWithin k (map Handle (held_fields fs)) → elements_of m fs ≡ elements_of n fs
  elements_alike m n [] a c = refl
  elements_alike m n (field.Held h ∷ fs) a c = λ i. Read h (a.handles h c.0 i) ∷ elements_alike m n fs a c.1 i
  elements_alike m n (field.Null ∷ fs) a c = ap (λ es. Null ∷ es) (elements_alike m n fs a c)
  elements_alike m n (field.Me ∷ fs) a c = ap (λ es. Me ∷ es) (elements_alike m n fs a c)

  -- an object of the set, if one is named, is seen alike, with its counts
  seen_alike : (m n : State) (o : Option ℕ) → AreAlike k m n → AreWithin k (map Object (option_to_list o)) → seen m o ≡ seen n o
  seen_alike m n None a c = refl
  seen_alike m n (Some o) a c = λ i. record { entry = a.entries o c.0 i; strong = a.strongs o c.0 i; weak = a.weaks o c.0 i }

  -- both views are equal, and read the same keys
  at_alike : (m n : State) (x : Members) → AreAlike k m n → AreWithin k (member_keys m x) → (view_at m x ≡ view_at n x) × (member_keys m x ≡ member_keys n x)
  at_alike m n x a c =
      let names = within_front k (named_keys x) _ c in
      let object = within_back k (named_keys x) _ c in
      let past_first = within_back k (map Handle (option_to_list x.first)) _ names in
      let past_second = within_back k (map Handle (option_to_list x.second)) _ past_first in
      let first : held_by m x.first ≡ held_by n x.first = held_alike m n x.first a (within_front k (map Handle (option_to_list x.first)) _ names) in
      let second : held_by m x.second ≡ held_by n x.second = held_alike m n x.second a (within_front k (map Handle (option_to_list x.second)) _ past_first) in
      let elements : elements_of m x.fields ≡ elements_of n x.fields = elements_alike m n x.fields a (within_front k (map Handle (held_fields x.fields)) _ past_second) in
      let cell : cell_of m x.cell ≡ cell_of n x.cell = cell_alike m n x.cell a (within_back k (map Handle (held_fields x.fields)) _ past_second) in
      let there : seen m (named_in (held_by m x.first)) ≡ seen n (named_in (held_by n x.first)) = seen_alike m n (named_in (held_by m x.first)) a object ∙ ap (λ y. seen n (named_in y)) first in (
        λ i. record { first = first i; second = second i; cell = cell i; elements = elements i; object = there i },
        ap (λ y. named_keys x ++ map Object (option_to_list (named_in y))) first,
      )

  -- scope_end names the same handles, where the scope of its label is alike; others name their own
  pub members_alike : (t : ℕ) (kd : Kind) (m n : State) → AreAlike k m n → AreWithin k (scope_keys t kd) → members (scope_of t m.scopes) kd ≡ members (scope_of t n.scopes) kd
  members_alike t kind.ScopeEnd m n a c = ap (λ hs. members hs kind.ScopeEnd) (a.scopes t c.0)
  members_alike t kd m n a c = refl

  -- ---- an operation
  -- both have carried out an operation alike
  pub record StepAlike (m n : State) (a b : Stepped) : Type 0 where
    pub outcome : a.outcome ≡ b.outcome
    pub alike : AreAlike k a.state b.state
    pub moves : WeightsMoveAlike m a.state n b.state
    pub scopes : ScopesMoveAlike k m.scopes a.state.scopes n.scopes b.state.scopes

  -- the counts of an object of the set are told alike
  counts_alike : (m n : State) (o : Option ℕ) → AreAlike k m n → AreWithin k (map Object (option_to_list o)) → counts_of m o ≡ counts_of n o
  counts_alike m n None a c = refl
  counts_alike m n (Some o) a c = λ i. Some (record { object = o; strong = a.strongs o c.0 i; weak = a.weaks o c.0 i })

  -- both have carried out a plan alike, and touched, moved and set the same
  record Carried (m n : State) (id : ℕ) (p q : Plan) : Type 0 where
    pub steps : StepAlike m n (carried_out m id p) (carried_out n id q)
    pub keys : plan_keys m p ≡ plan_keys n q
    pub moved : moved_by_plan m p ≡ moved_by_plan n q
    pub sets : set_by_plan m p ≡ set_by_plan n q

  -- a plan whose keys are alike is carried out alike in both
  carried_alike : (m n : State) (id : ℕ) (p : Plan) → AreWithin k (plan_keys m p) → AreAlike k m n → Carried m n id p p
  carried_alike m n id (Skip why) c a = record {
    steps = record { outcome = refl; alike = a; moves = move_none m n; scopes = scope_none k m.scopes n.scopes };
    keys = refl;
    moved = refl;
    sets = refl;
  }
  carried_alike m n id (Act answer changes event pending object) c a =
      let past = within_back k (map change_key changes) _ c in
      let d : Changed m n changes = changed_alike changes m n (within_front k (map change_key changes) _ c) a in
      let e : SameEnd k (changed m changes) (changed n changes) (release (changed m changes) pending) (release (changed n changes) pending) (taken (changed m changes) pending) (taken (changed n changes) pending) =
      release_alike k (changed m changes) (changed n changes) pending (within_front k (flat_map item_keys (taken (changed m changes) pending)) _ past) d.alike in
      let told : counts_of (release (changed m changes) pending).state object ≡ counts_of (release (changed n changes) pending).state object =
      counts_alike (release (changed m changes) pending).state (release (changed n changes) pending).state object e.alike (within_back k (flat_map item_keys (taken (changed m changes) pending)) _ past) in
      record {
        steps = record {
          outcome = λ i. record { id = id; verdict = Did answer; events = option_to_list event ++ e.events i; counts = told i };
          alike = e.alike;
          moves = move_then m (changed m changes) (release (changed m changes) pending).state n (changed n changes) (release (changed n changes) pending).state d.moves e.moves;
          scopes = subst (λ (x : List Scoped). ScopesMoveAlike k m.scopes x n.scopes (release (changed n changes) pending).state.scopes) (sym (kept_scopes (changed m changes) pending))
              (subst (λ (x : List Scoped). ScopesMoveAlike k m.scopes (changed m changes).scopes n.scopes x) (sym (kept_scopes (changed n changes) pending)) d.scopes);
        };
        keys = λ i. map change_key changes ++ (flat_map item_keys (e.taken i) ++ map Object (option_to_list object));
        moved = d.moved;
        sets = λ i. map change_key changes ++ map Object (map event_object (e.events i));
      }

  -- both have carried out an operation alike, and touched, moved and set the same
  pub record Steps (m n : State) (op : Operation) : Type 0 where
    pub steps : StepAlike m n (step m op) (step n op)
    pub keys : footprint m op ≡ footprint n op
    pub moved : moved m op ≡ moved n op
    pub sets : set_by m op ≡ set_by n op

  -- the views are equal, so the row gives one plan, which is carried out alike
  pub step_alike : (m n : State) (op : Operation) → AreWithin k (footprint m op) → AreAlike k m n → Steps m n op
  unfolding step footprint moved set_by
  step_alike m n op c a =
      let x : Members = members (scope_of op.thread m.scopes) op.kind in
      let past = within_back k (scope_keys op.thread op.kind) _ c in
      let same : members (scope_of op.thread m.scopes) op.kind ≡ members (scope_of op.thread n.scopes) op.kind = members_alike op.thread op.kind m n a (within_front k (scope_keys op.thread op.kind) _ c) in
      let at = at_alike m n x a (within_front k (member_keys m x) _ past) in
      let views : view_of m op.thread op.kind ≡ view_of n op.thread op.kind = at.0 ∙ ap (view_at n) same in
      let keys : member_keys m x ≡ member_keys n (members (scope_of op.thread n.scopes) op.kind) = at.1 ∙ ap (member_keys n) same in
      let d : Carried m n op.id (row op (view_of m op.thread op.kind)) (row op (view_of n op.thread op.kind)) =
      subst (λ (v : View). Carried m n op.id (row op (view_of m op.thread op.kind)) (row op v)) views
      (carried_alike m n op.id (row op (view_of m op.thread op.kind)) (within_back k (member_keys m x) _ past) a) in
      record {
        steps = d.steps;
        keys = λ i. scope_keys op.thread op.kind ++ (keys i ++ d.keys i);
        moved = d.moved;
        sets = d.sets;
      }

  -- ---- all operations
  -- both have carried out all operations alike
  pub record RunAlike (m n : State) (ops : List Operation) : Type 0 where
    pub outcomes : outcomes_from m ops ≡ outcomes_from n ops
    pub alike : AreAlike k (end_from m ops) (end_from n ops)
    pub moves : WeightsMoveAlike m (end_from m ops) n (end_from n ops)
    pub scopes : ScopesMoveAlike k m.scopes (end_from m ops).scopes n.scopes (end_from n ops).scopes
    pub keys : footprints_from m ops ≡ footprints_from n ops
    pub moved : moved_from m ops ≡ moved_from n ops

  -- operations whose footprints are alike are carried out alike, one after another
  pub run_alike : (ops : List Operation) (m n : State) → AreWithin k (footprints_from m ops) → AreAlike k m n → RunAlike m n ops
  run_alike [] m n c a = record { outcomes = refl; alike = a; moves = move_none m n; scopes = scope_none k m.scopes n.scopes; keys = refl; moved = refl }
  run_alike (op ∷ ops) m n c a =
      let d : Steps m n op = step_alike m n op (within_front k (footprint m op) _ c) a in
      let e = d.steps in
      let r : RunAlike (step m op).state (step n op).state ops = run_alike ops (step m op).state (step n op).state (within_back k (footprint m op) _ c) e.alike in
      record {
        outcomes = λ i. e.outcome i ∷ r.outcomes i;
        alike = r.alike;
        moves = move_then m (step m op).state (end_from m (op ∷ ops)) n (step n op).state (end_from n (op ∷ ops)) e.moves r.moves;
        scopes = scope_then k m.scopes (step m op).state.scopes (end_from m (op ∷ ops)).scopes n.scopes (step n op).state.scopes (end_from n (op ∷ ops)).scopes e.scopes r.scopes;
        keys = λ i. d.keys i ++ r.keys i;
        moved = λ i. d.moved i ++ r.moved i;
      }
