-- What is told of an operation has, with what the operation and its outcome name, its footprint, and what it moves.
use Rattle.std.proofs.Common.{◌≡◌, ℕ, ◌+◌, ◌<◌, List, [], ◌∷◌, ◌++◌, map, take, drop, length, ap, ◌∙◌, sym, subst, append_assoc, Bool}
use Rattle.std.specs.Prelude.{flat_map, Option, Some, None, option_to_list, get_or}
use Rattle.std.proofs.lemmas.List.{drop_more, take_more}
use Rattle.std.proofs.lemmas.Grind.{flat_map-append}
use Rattle.trace_types.specs.declared.slots.Holding.{Holding}
use Rattle.trace_types.specs.declared.slots.Item.{Item}
use Rattle.trace_types.specs.declared.slots.Change.{Change}
use Rattle.trace_types.specs.declared.kinds.Field.TheVariants as field
use Rattle.trace_types.specs.declared.kinds.Kind.{Kind}
use Rattle.trace_types.specs.declared.kinds.Kind.TheVariants as kind
use Rattle.trace_types.specs.declared.outcomes.Counts.{Counts}
use Rattle.trace_types.specs.declared.outcomes.Event.{Event}
use Rattle.trace_types.specs.declared.outcomes.Outcome.{Outcome}
use Rattle.trace_types.specs.Operation.{Operation}
use Rattle.ownership_model.specs.declared.key.Key.{Key}
use Rattle.ownership_model.specs.declared.key.Key.TheVariants.{Handle, Object}
use Rattle.ownership_model.specs.declared.plan.Plan.{Plan}
use Rattle.ownership_model.specs.declared.plan.Plan.TheVariants.{Skip, Act}
use Rattle.ownership_model.specs.State.{State}
use Rattle.ownership_model.specs.Scopes.{scope_of}
use Rattle.ownership_model.specs.Changes.{changed}
use Rattle.ownership_model.specs.Release.{release}
use Rattle.ownership_model.specs.View.{members, held_by, held_fields, elements_of, view_of}
use Rattle.ownership_model.specs.Table.{row, ending}
use Rattle.ownership_model.specs.Step.{step, carried_out, counts_of, outcomes_from, end_from, AreNew}
use Rattle.ownership_model.specs.Touched.{event_object, counted}
use Rattle.ownership_model.specs.Alike.{AreWithin, Covers}
use Rattle.ownership_model.specs.Footprint.{item_keys, taken, change_key, moved_by_changes, named_keys, member_keys, scope_keys, plan_keys, moved_by_plan, footprint, moved, footprints_from, moved_from}
use Rattle.ownership_model.proofs.Twins.{IfThere}
use Rattle.ownership_model.proofs.AlikeLemmas.{within_front, within_back}
use Rattle.object_heap.specs.Told.{event_keys, release_keys}
use Rattle.object_heap.proofs.CoverLemmas.{within_both}
use Rattle.heap_difference.specs.KeySets.{is_among, set_of}
use Rattle.heap_difference.specs.Laws.{HasTouched}
use Rattle.heap_difference.specs.Naming.{op_keys, outcome_keys, with_names}
use Rattle.heap_difference.proofs.KeyLemmas.{Has-set_of}
use Rattle.op_step.specs.Told.{step_keys, replay_keys, ended_key, unnamed_keys, carried_keys}
use Rattle.op_step.proofs.NamedLemmas.{named_at, ended_by, Told, Names, held_within, plan_names}

-- ---- what is told has what is wanted
module _ (k : Key → Bool) where
  -- the objects of two lists
  objects_front : (a b : List ℕ) → AreWithin k (map Object (a ++ b)) → AreWithin k (map Object a)
  objects_front [] b c = tt
  objects_front (o ∷ a) b c = (c.0, objects_front a b c.1)

  objects_back : (a b : List ℕ) → AreWithin k (map Object (a ++ b)) → AreWithin k (map Object b)
  objects_back [] b c = c
  objects_back (o ∷ a) b c = objects_back a b c.1

  -- an event that the operation names itself, and those of what it drops
  events_told : (e : Option Event) (es : List Event) → AreWithin k (map Object (map event_object (option_to_list e ++ es))) → IfThere (λ x. Told k (event_object x)) e × AreWithin k (event_keys es)
  events_told None es c = (tt, c)
  events_told (Some e) es c = (c.0, c.1)

  -- the object whose counts are told
  object_told : (m : State) (o : Option ℕ) → AreWithin k (map Object (counted (counts_of m o))) → IfThere (Told k) o × AreWithin k (map Object (option_to_list o))
  object_told m None c = (tt, tt)
  object_told m (Some o) c = (c.0, c)

  -- where an operation is skipped, the object of its first handle is told
  abbrev SkipNames : Option Holding → Plan → Type 0
  SkipNames first (Skip why) = AreWithin k (named_at first)
  SkipNames first (Act answer changes event pending object) = Unit {0}

  skip_names : (m : State) (kd : Kind) (p : Plan) → AreWithin k (unnamed_keys m kd p) → SkipNames (held_by m (members [] kd).first) p
  skip_names m kd (Skip why) c = c
  skip_names m kd (Act answer changes event pending object) c = tt

  -- the object of the first handle, what a plan touches, and what it moves
  plan_within : (m : State) (id : ℕ) (first : Option Holding) (p : Plan) → Names k m first p → SkipNames first p → AreWithin k (outcome_keys (carried_out m id p).outcome) → AreWithin k (carried_keys m p)
      → AreWithin k (named_at first) × (AreWithin k (plan_keys m p) × AreWithin k (moved_by_plan m p))
  plan_within m id first (Skip why) names skip out c = (skip, (tt, tt))
  plan_within m id first (Act answer changes event pending object) names skip out c =
      let r = release (changed m changes) pending in
      let items = flat_map item_keys (taken (changed m changes) pending) in
      let moves : AreWithin k (moved_by_changes m changes) = within_front k (moved_by_changes m changes) items c in
      let here : AreWithin k (map Object (map event_object (option_to_list event ++ r.events))) = objects_front (map event_object (option_to_list event ++ r.events)) (counted (counts_of r.state object)) out in
      let told = object_told r.state object (objects_back (map event_object (option_to_list event ++ r.events)) (counted (counts_of r.state object)) out) in
      let both = names told.0 (events_told event r.events here).0 moves in (
        both.1,
        (within_both k (map change_key changes) _ both.0 (within_both k items _ (within_back k (moved_by_changes m changes) items c) told.1), moves),
      )

  -- the handles of a scope that ends are those that its plan ends
  scope_within : (m : State) (hs : List ℕ) → AreWithin k (flat_map ended_key (ending (elements_of m (map field.Held hs)) [])) → AreWithin k (map Handle hs)
  scope_within m [] c = tt
  scope_within m (h ∷ hs) c = (c.0, scope_within m hs c.1)

  ended_within : (m : State) (id t : ℕ) (kd : Kind) → AreWithin k (unnamed_keys m kd (row (record { id = id; thread = t; kind = kd }) (view_of m t kd))) → AreWithin k (map Handle (ended_by m t kd))
  ended_within m id t kind.ScopeEnd c = scope_within m (scope_of t m.scopes) c
  ended_within m id t kd c = tt

  -- what an operation names
  members_within : (m : State) (t : ℕ) (kd : Kind) → AreWithin k (named_keys (members [] kd)) → AreWithin k (named_at (held_by m (members [] kd).first)) → AreWithin k (map Handle (ended_by m t kd))
      → AreWithin k (member_keys m (members (scope_of t m.scopes) kd))
  members_within m t kind.ScopeEnd a b c =
      let hs = scope_of t m.scopes in
      within_both k (named_keys (members hs kind.ScopeEnd)) [] (within_both k (map Handle (held_fields (map field.Held hs))) [] (held_within k hs c) tt) tt
  members_within m t kd a b c = within_both k (named_keys (members [] kd)) (named_at (held_by m (members [] kd).first)) a b

  -- an operation's footprint, and what it moves
  step_within : (m : State) (op : Operation) → AreWithin k (op_keys op) → AreWithin k (outcome_keys (step m op).outcome) → AreWithin k (unnamed_keys m op.kind (row op (view_of m op.thread op.kind)))
      → AreWithin k (carried_keys m (row op (view_of m op.thread op.kind))) → AreWithin k (step_keys m op)
  unfolding footprint moved step
  step_within m op named out unnamed c =
      let p = row op (view_of m op.thread op.kind) in
      let first = held_by m (members [] op.kind).first in
      let names = within_back k (scope_keys op.thread op.kind) _ named in
      let ended = ended_within m op.id op.thread op.kind unnamed in
      let plan = plan_within m op.id first p (plan_names k m op.id op.thread op.kind names ended) (skip_names m op.kind p unnamed) out c in
      within_both k (footprint m op) (moved m op)
      (within_both k (scope_keys op.thread op.kind) _ (within_front k (scope_keys op.thread op.kind) _ named)
      (within_both k (member_keys m (members (scope_of op.thread m.scopes) op.kind)) _ (members_within m op.thread op.kind names plan.0 ended) plan.1.0))
      plan.1.1

-- what a plan reads and what was carried out make a step, with what the operation and its outcome name
pub covers_step : (m : State) (op : Operation) (p : Plan) (out : Outcome) (k0 k1 k2 : List Key) → Covers k1 (k0 ++ unnamed_keys m op.kind p) → p ≡ row op (view_of m op.thread op.kind) → out ≡ (step m op).outcome
    → Covers (k2 ++ outcome_keys out) (k1 ++ carried_keys m p) → Covers (k2 ++ (op_keys op ++ outcome_keys out)) (k0 ++ step_keys m op)
covers_step m op p out k0 k1 k2 first is out_is second = λ k c.
    let names = within_back k k2 (op_keys op ++ outcome_keys out) c in
    let told = within_back k (op_keys op) (outcome_keys out) names in
    let all = second k (within_both k k2 (outcome_keys out) (within_front k k2 (op_keys op ++ outcome_keys out) c) told) in
    let known = first k (within_front k k1 (carried_keys m p) all) in
    let unnamed = subst (λ (q : Plan). AreWithin k (unnamed_keys m op.kind q)) is (within_back k k0 (unnamed_keys m op.kind p) known) in
    let plan = subst (λ (q : Plan). AreWithin k (carried_keys m q)) is (within_back k k1 (carried_keys m p) all) in
    within_both k k0 (step_keys m op) (within_front k k0 (unnamed_keys m op.kind p) known)
    (step_within k m op (within_front k (op_keys op) (outcome_keys out) names) (subst (λ (x : Outcome). AreWithin k (outcome_keys x)) out_is told) unnamed plan)

-- what is carried out tells, with the outcome, what its plan moves and drops: the object of the counts was told before, and perhaps taken
-- back
pub covers_carried : (m n : State) (changes : List Change) (event : Option Event) (pending : List Item) (object : Option ℕ) (es all : List Event) (counts : Option Counts) (k0 k1 k2 k3 : List Key)
    → all ≡ option_to_list event ++ es → counts ≡ counts_of n object
    → Covers k1 k0 → Covers (k2 ++ event_keys es) (k1 ++ release_keys m changes pending) → Covers (k3 ++ map Object (option_to_list object)) k2
    → Covers (k3 ++ map Object (map event_object all ++ counted counts)) (k0 ++ release_keys m changes pending)
covers_carried m n changes event pending object es all counts k0 k1 k2 k3 all_is counts_are first second third = λ k c.
    let names = within_back k k3 (map Object (map event_object all ++ counted counts)) c in
    let of_counts : AreWithin k (map Object (counted (counts_of n object))) = subst (λ (x : Option Counts). AreWithin k (map Object (counted x))) counts_are (objects_back k (map event_object all) (counted counts) names) in
    let of_events : AreWithin k (event_keys (option_to_list event ++ es)) = subst (λ (xs : List Event). AreWithin k (event_keys xs)) all_is (objects_front k (map event_object all) (counted counts) names) in
    let before = third k (within_both k k3 (map Object (option_to_list object)) (within_front k k3 _ c) (object_told k n object of_counts).1) in
    let whole = second k (within_both k k2 (event_keys es) before (events_told k event es of_events).1) in
    within_both k k0 (release_keys m changes pending) (first k (within_front k k1 (release_keys m changes pending) whole)) (within_back k k1 (release_keys m changes pending) whole)

-- where an operation is skipped nothing is moved
pub covers_skipped : (k0 names : List Key) → Covers (k0 ++ names) (k0 ++ [])
covers_skipped k0 names = λ k c. within_both k k0 [] (within_front k k0 names c) tt

-- ---- one operation more was carried out, and there is one less to carry out
module _ (m n : State) (ops : List Operation) (i : ℕ) (op : Operation) (within : i < length ops) (is : op ≡ get_or ops i op) (made : n ≡ (step m op).state) where
  -- it is the first of what was left
  first_op : drop i ops ≡ op ∷ drop (i + 1) ops
  first_op = drop_more ops i op within ∙ ap (λ (y : Operation). y ∷ drop (i + 1) ops) (sym is)

  -- and the last of what was carried out
  last_op : take (i + 1) ops ≡ take i ops ++ op ∷ []
  last_op = take_more ops i op within ∙ ap (λ (y : Operation). take i ops ++ y ∷ []) (sym is)

  -- the others are new when their turn comes
  pub new_next : AreNew m (drop i ops) → AreNew n (drop (i + 1) ops)
  new_next new = subst (λ (s : State). AreNew s (drop (i + 1) ops)) (sym made) (subst (λ (os : List Operation). AreNew m os) first_op new).1

  -- the outcomes so far, and those of what is left
  pub outcomes_next : (before told : List Outcome) → told ≡ before ++ (step m op).outcome ∷ [] → told ++ outcomes_from n (drop (i + 1) ops) ≡ before ++ outcomes_from m (drop i ops)
  outcomes_next before told e =
      ap (λ (os : List Outcome). os ++ outcomes_from n (drop (i + 1) ops)) e
      ∙ append_assoc before ((step m op).outcome ∷ []) (outcomes_from n (drop (i + 1) ops))
      ∙ ap (λ (s : State). before ++ ((step m op).outcome ∷ outcomes_from s (drop (i + 1) ops))) made
      ∙ ap (λ (os : List Operation). before ++ outcomes_from m os) (sym first_op)

  -- what is left ends where all end
  pub end_next : end_from n (drop (i + 1) ops) ≡ end_from m (drop i ops)
  end_next = ap (λ (s : State). end_from s (drop (i + 1) ops)) made ∙ ap (λ (os : List Operation). end_from m os) (sym first_op)

  -- the names of one operation and of its outcome, beside those before
  names_next : (k : Key → Bool) (told : List Key) (outs : List Outcome) (out : Outcome) → AreWithin k (with_names told (take (i + 1) ops) (outs ++ out ∷ []))
      → AreWithin k (told ++ (op_keys op ++ outcome_keys out)) × (AreWithin k (flat_map op_keys (take i ops)) × AreWithin k (flat_map outcome_keys outs))
  names_next k told outs out c =
      let names = within_back k told _ c in
      let of_ops : AreWithin k (flat_map op_keys (take i ops) ++ (op_keys op ++ [])) =
      subst (AreWithin k) (ap (λ (os : List Operation). flat_map op_keys os) last_op ∙ flat_map-append op_keys (take i ops) (op ∷ [])) (within_front k (flat_map op_keys (take (i + 1) ops)) _ names) in
      let of_outs : AreWithin k (flat_map outcome_keys outs ++ (outcome_keys out ++ [])) =
      subst (AreWithin k) (flat_map-append outcome_keys outs (out ∷ [])) (within_back k (flat_map op_keys (take (i + 1) ops)) _ names) in (
        within_both k told _ (within_front k told _ c)
            (within_both k (op_keys op) (outcome_keys out) (within_front k (op_keys op) [] (within_back k (flat_map op_keys (take i ops)) _ of_ops)) (within_front k (outcome_keys out) [] (within_back k (flat_map outcome_keys outs) _ of_outs))),
        (within_front k (flat_map op_keys (take i ops)) _ of_ops, within_front k (flat_map outcome_keys outs) _ of_outs),
      )

  -- the keys that are told, with what is named so far, and those of what is left
  pub covers_next : (before told all : List Key) (outs more : List Outcome) (out : Outcome) → Covers (told ++ (op_keys op ++ outcome_keys out)) (before ++ step_keys m op) → more ≡ outs ++ out ∷ []
      → Covers (with_names before (take i ops) outs ++ replay_keys m (drop i ops)) all → Covers (with_names told (take (i + 1) ops) more ++ replay_keys n (drop (i + 1) ops)) all
  covers_next before told all outs more out step_told more_is so_far = λ k c.
      let rest : List Operation = drop (i + 1) ops in
      let now : AreWithin k (with_names told (take (i + 1) ops) (outs ++ out ∷ [])) =
      subst (λ (os : List Outcome). AreWithin k (with_names told (take (i + 1) ops) os)) more_is (within_front k (with_names told (take (i + 1) ops) more) (replay_keys n rest) c) in
      let names = names_next k told outs out now in
      let here = step_told k names.0 in
      let step_in = within_back k before (step_keys m op) here in
      let later = subst (λ (s : State). AreWithin k (replay_keys s rest)) made (within_back k (with_names told (take (i + 1) ops) more) (replay_keys n rest) c) in
      let s : State = (step m op).state in
      let whole : AreWithin k (replay_keys m (op ∷ rest)) = within_both k (footprint m op ++ footprints_from s rest) (moved m op ++ moved_from s rest)
      (within_both k (footprint m op) (footprints_from s rest) (within_front k (footprint m op) (moved m op) step_in) (within_front k (footprints_from s rest) (moved_from s rest) later))
      (within_both k (moved m op) (moved_from s rest) (within_back k (footprint m op) (moved m op) step_in) (within_back k (footprints_from s rest) (moved_from s rest) later)) in
      so_far k (within_both k (with_names before (take i ops) outs) (replay_keys m (drop i ops))
      (within_both k before _ (within_front k before (step_keys m op) here) (within_both k (flat_map op_keys (take i ops)) (flat_map outcome_keys outs) names.1.0 names.1.1))
      (subst (λ (os : List Operation). AreWithin k (replay_keys m os)) (sym first_op) whole))

-- before the first operation
pub covers_begin : (m : State) (ops : List Operation) (before : List Key) → Covers (with_names before [] [] ++ replay_keys m ops) (before ++ replay_keys m ops)
covers_begin m ops before = λ k c.
    within_both k before (replay_keys m ops) (within_front k before [] (within_front k (with_names before [] []) (replay_keys m ops) c)) (within_back k (with_names before [] []) (replay_keys m ops) c)

-- all operations were told
pub covers_end : (m : State) (done ops left : List Operation) (outs : List Outcome) (told all : List Key) → left ≡ [] → done ≡ ops → Covers (with_names told done outs ++ replay_keys m left) all → Covers (with_names told ops outs) all
covers_end m done ops left outs told all none same cover = λ k c.
    cover k (within_both k (with_names told done outs) (replay_keys m left) (subst (λ (os : List Operation). AreWithin k (with_names told os outs)) (sym same) c) (subst (λ (os : List Operation). AreWithin k (replay_keys m os)) (sym none) tt))

-- the keys that were told, with what is named, have all that the operations touched
pub has_touched : (told before : List Key) (m : State) (ops : List Operation) (outs : List Outcome) → Covers (with_names told ops outs) (before ++ replay_keys m ops) → HasTouched (set_of (with_names told ops outs)) m ops
has_touched told before m ops outs cover =
    let keys = with_names told ops outs in
    within_back (is_among (set_of keys)) before (replay_keys m ops) (cover (is_among (set_of keys)) (Has-set_of keys).all)
