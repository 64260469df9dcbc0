-- What stands in scopes changes nothing else, but where a scope ends.
use Rattle.std.proofs.Common.{◌≡◌, ℕ, zero, suc, List, [], ◌∷◌, ◌++◌, refl, ap, ◌∙◌, sym, subst, false}
use Rattle.std.specs.Prelude.{Option, Some, None, option_to_list}
use Rattle.std.specs.List.{All}
use Rattle.std.proofs.lemmas.List.Elements.{All-head, All-tail}
use Rattle.trace_types.specs.Operation.{Operation}
use Rattle.trace_types.specs.declared.kinds.Kind.{Kind}
use Rattle.trace_types.specs.declared.kinds.Kind.TheVariants as kind
use Rattle.trace_types.specs.declared.outcomes.Verdict.TheVariants.{Did}
use Rattle.trace_types.specs.declared.slots.Slot.TheVariants.{Nothing, Strong, Weak, Dangling}
use Rattle.trace_types.specs.declared.slots.Item.{Item}
use Rattle.trace_types.specs.declared.slots.Item.TheVariants as item
use Rattle.trace_types.specs.declared.slots.Change.{Change}
use Rattle.trace_types.specs.declared.slots.Change.TheVariants.{SetHandle, EndHandle, SetCell, EndCell, SetField, Make, TurnHusk}
use Rattle.trace_types.specs.declared.slots.Scoped.{Scoped}
use Rattle.ownership_model.specs.State.{State}
use Rattle.ownership_model.specs.Scopes.{scope_of}
use Rattle.ownership_model.specs.Changes.{changed, changed_by}
use Rattle.ownership_model.specs.Release.{Fate, Stays, Falls, Goes, fate, Dropped, left_by, drop_first, Released, release_within, release, work}
use Rattle.ownership_model.specs.View.{View, view_of, view_at, members}
use Rattle.ownership_model.specs.Table.{row}
use Rattle.ownership_model.specs.declared.plan.Plan.{Plan}
use Rattle.ownership_model.specs.declared.plan.Plan.TheVariants.{Skip, Act}
use Rattle.ownership_model.specs.Step.{Stepped, step, carried_out, counts_of, outcomes_from, end_from}
use Rattle.ownership_model.specs.Before.{without_scopes, is_scope_end, outcomes_before, end_before, OldTracesReplayAsBefore}

-- the state with other scopes
abbrev with_scopes : List Scoped → State → State
with_scopes ss m = record m { scopes = ss }

-- both hold the same, whatever stands in their scopes
abbrev Same : State → State → Type 0
Same a b = without_scopes a ≡ without_scopes b

change_same : (c : Change) (a b : State) → Same a b → Same (changed_by a c) (changed_by b c)
change_same (SetHandle t h x) a b s = λ i. record (changed_by (s i) (SetHandle t h x)) { scopes = [] }
change_same (EndHandle h) a b s = λ i. record (changed_by (s i) (EndHandle h)) { scopes = [] }
change_same (SetCell c x) a b s = λ i. record (changed_by (s i) (SetCell c x)) { scopes = [] }
change_same (EndCell c) a b s = λ i. record (changed_by (s i) (EndCell c)) { scopes = [] }
change_same (SetField o k x) a b s = λ i. record (changed_by (s i) (SetField o k x)) { scopes = [] }
change_same (Make o fields) a b s = λ i. record (changed_by (s i) (Make o fields)) { scopes = [] }
change_same (TurnHusk o) a b s = λ i. record (changed_by (s i) (TurnHusk o)) { scopes = [] }

changed_same : (cs : List Change) (a b : State) → Same a b → Same (changed a cs) (changed b cs)
changed_same [] a b s = s
changed_same (c ∷ cs) a b s = changed_same cs (changed_by a c) (changed_by b c) (change_same c a b s)

-- ---- a release
record SameDrop (a b : Dropped) : Type 0 where
  state : Same a.state b.state
  events : a.events ≡ b.events
  pending : a.pending ≡ b.pending

left_same : (a b : State) (rest : List Item) (f : Fate) → Same a b → SameDrop (left_by a rest f) (left_by b rest f)
left_same a b rest Stays s = record { state = s; events = refl; pending = refl }
left_same a b rest (Falls o fields) s = record { state = λ i. (left_by (s i) rest (Falls o fields)).state; events = refl; pending = refl }
left_same a b rest (Goes o) s = record { state = λ i. (left_by (s i) rest (Goes o)).state; events = refl; pending = refl }

-- what an item brings about is asked of the rest of the state alone
fate_alone : (m : State) (x : Item) (rest : List Item) → fate m x rest ≡ fate (without_scopes m) x rest
fate_alone m (item.Slot Nothing) rest = refl
fate_alone m (item.Slot Dangling) rest = refl
fate_alone m (item.Slot (Strong o)) rest = refl
fate_alone m (item.Slot (Weak o)) rest = refl
fate_alone m (item.End o) rest = refl

drop_same : (a b : State) (x : Item) (rest : List Item) → Same a b → SameDrop (drop_first a x rest) (drop_first b x rest)
drop_same a b x rest s =
    subst (λ f. SameDrop (drop_first a x rest) (left_by b rest f)) (fate_alone a x rest ∙ (λ i. fate (s i) x rest) ∙ sym (fate_alone b x rest)) (left_same a b rest (fate a x rest) s)

record SameEnd (a b : Released) : Type 0 where
  state : Same a.state b.state
  events : a.events ≡ b.events

within_same : (n : ℕ) (a b : State) (p : List Item) → Same a b → SameEnd (release_within n a p) (release_within n b p)
within_same n a b [] s = record { state = s; events = refl }
within_same zero a b (x ∷ p) s = record { state = s; events = refl }
within_same (suc n) a b (x ∷ p) s =
    let d : SameDrop (drop_first a x p) (drop_first b x p) = drop_same a b x p s in
    let one : SameEnd (release_within n (drop_first a x p).state (drop_first a x p).pending) (release_within n (drop_first b x p).state (drop_first a x p).pending) =
    within_same n (drop_first a x p).state (drop_first b x p).state (drop_first a x p).pending d.state in
    let two : SameEnd (release_within n (drop_first a x p).state (drop_first a x p).pending) (release_within n (drop_first b x p).state (drop_first b x p).pending) =
    subst (λ q. SameEnd (release_within n (drop_first a x p).state (drop_first a x p).pending) (release_within n (drop_first b x p).state q)) d.pending one in
    record { state = two.state; events = λ i. d.events i ++ two.events i }

release_same : (a b : State) (p : List Item) → Same a b → SameEnd (release a p) (release b p)
unfolding release
release_same a b p s = subst (λ n. SameEnd (release_within (work a p) a p) (release_within n b p)) (λ i. work (s i) p) (within_same (work a p) a b p s)

-- ---- a step
members_alike : (k : Kind) (xs ys : List ℕ) → is_scope_end k ≡ false → members xs k ≡ members ys k
members_alike (kind.New to fields) xs ys e = refl
members_alike (kind.NewCyclic to fields) xs ys e = refl
members_alike (kind.NewFrom from to) xs ys e = refl
members_alike (kind.WeakNew to) xs ys e = refl
members_alike (kind.Null to) xs ys e = refl
members_alike (kind.Clone from to) xs ys e = refl
members_alike (kind.Drop h) xs ys e = refl
members_alike (kind.Downgrade from to) xs ys e = refl
members_alike (kind.Upgrade from to) xs ys e = refl
members_alike (kind.TryUnwrap h) xs ys e = refl
members_alike (kind.IntoInner h) xs ys e = refl
members_alike (kind.GetMut h) xs ys e = refl
members_alike (kind.MakeMut h) xs ys e = refl
members_alike (kind.Counts h) xs ys e = refl
members_alike (kind.PtrEq x y) xs ys e = refl
members_alike (kind.Set h i from) xs ys e = refl
members_alike (kind.Take h i to) xs ys e = refl
members_alike (kind.Get h i to) xs ys e = refl
members_alike (kind.CellNew c from) xs ys e = refl
members_alike (kind.CellLoad c to) xs ys e = refl
members_alike (kind.CellSwap c from to) xs ys e = refl
members_alike (kind.CellCas c expected desired) xs ys e = refl
members_alike (kind.CellDrop c) xs ys e = refl
members_alike kind.ScopeEnd xs ys e = absurd cc

view_same : (a b : State) (t : ℕ) (k : Kind) → is_scope_end k ≡ false → Same a b → view_of a t k ≡ view_of b t k
view_same a b t k e s = (λ i. view_at (s i) (members (scope_of t a.scopes) k)) ∙ ap (view_at b) (members_alike k (scope_of t a.scopes) (scope_of t b.scopes) e)

counts_alone : (a b : State) (o : Option ℕ) → Same a b → counts_of a o ≡ counts_of b o
counts_alone a b None s = refl
counts_alone a b (Some o) s = λ i. counts_of (s i) (Some o)

record SameStep (a b : Stepped) : Type 0 where
  state : Same a.state b.state
  outcome : a.outcome ≡ b.outcome

carried_same : (a b : State) (id : ℕ) (p : Plan) → Same a b → SameStep (carried_out a id p) (carried_out b id p)
carried_same a b id (Skip why) s = record { state = s; outcome = refl }
carried_same a b id (Act answer changes event pending object) s =
    let e : SameEnd (release (changed a changes) pending) (release (changed b changes) pending) = release_same (changed a changes) (changed b changes) pending (changed_same changes a b s) in
    record {
      state = e.state;
      outcome = λ i. record { id = id; verdict = Did answer; events = option_to_list event ++ e.events i; counts = counts_alone (release (changed a changes) pending).state (release (changed b changes) pending).state object e.state i };
    }

step_same : (a b : State) (op : Operation) → is_scope_end op.kind ≡ false → Same a b → SameStep (step a op) (step b op)
unfolding step
step_same a b op e s =
    subst (λ (v : View). SameStep (step a op) (carried_out b op.id (row op v))) (view_same a b op.thread op.kind e s)
    (carried_same a b op.id (row op (view_of a op.thread op.kind)) s)

left_out : (ops : List Operation) (m n : State) → Same m n → All (λ op. is_scope_end op.kind ≡ false) ops
    → (outcomes_from m ops ≡ outcomes_before n ops) × (without_scopes (end_from m ops) ≡ without_scopes (end_before n ops))
left_out [] m n s old = (refl, s)
left_out (op ∷ ops) m n s old =
    let one : SameStep (step m op) (step n op) = step_same m n op (All-head (λ op. is_scope_end op.kind ≡ false) op ops old) s in
    let rest : (outcomes_from (step m op).state ops ≡ outcomes_before (without_scopes (step n op).state) ops) × (without_scopes (end_from (step m op).state ops) ≡ without_scopes (end_before (without_scopes (step n op).state) ops)) =
    left_out ops (step m op).state (without_scopes (step n op).state) one.state (All-tail (λ op. is_scope_end op.kind ≡ false) op ops old) in
    ((λ i. one.outcome i ∷ rest.0 i), rest.1)

bare_end : (ops : List Operation) (m : State) → m ≡ without_scopes m → end_before m ops ≡ without_scopes (end_before m ops)
bare_end [] m e = e
bare_end (op ∷ ops) m e = bare_end ops (without_scopes (step m op).state) refl

pub as_before : OldTracesReplayAsBefore
as_before m ops old =
    let both : (outcomes_from m ops ≡ outcomes_before (without_scopes m) ops) × (without_scopes (end_from m ops) ≡ without_scopes (end_before (without_scopes m) ops)) = left_out ops m (without_scopes m) refl old in
    record { outcomes = both.0; end = both.1 ∙ sym (bare_end ops (without_scopes m) refl) }
