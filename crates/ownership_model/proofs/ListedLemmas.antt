-- The replay over plain lists is the replay.
use Rattle.std.proofs.Common.{◌≡◌, ℕ, zero, suc, ◌+◌, List, [], ◌∷◌, ◌++◌, length, refl, ap, ◌∙◌, sym, subst, arith, append_assoc, Bool, true, false}
use Rattle.std.specs.Prelude.{Option, Some, None, IsTrue, IsSome, ◌==◌, ◌&&◌, if◌then◌else◌, option_to_list}
use Rattle.std.proofs.lemmas.Bool.Decides.{nat_tests}
use Rattle.std.proofs.lemmas.List.{append-nil}
use Rattle.std.specs.Ordering.{nat_cmp}
use Rattle.std.specs.Cmp.{nat_cmp_total}
use Rattle.std.specs.FinMap.{FinMap, get, insert, remove, get-empty, from_entries, same_map, nat_cmp-IsAntisymmetric}
use Rattle.trace_types.specs.declared.slots.Slot.{Slot}
use Rattle.trace_types.specs.declared.slots.Holding.{Holding}
use Rattle.trace_types.specs.declared.slots.Slot.TheVariants.{Nothing, Strong, Weak, Dangling}
use Rattle.trace_types.specs.declared.slots.Entry.{Entry}
use Rattle.trace_types.specs.declared.slots.Entry.TheVariants.{Alive, Husk}
use Rattle.trace_types.specs.declared.slots.Item.{Item}
use Rattle.trace_types.specs.declared.slots.Item.TheVariants as item
use Rattle.trace_types.specs.declared.slots.Change.{Change}
use Rattle.trace_types.specs.declared.slots.Change.TheVariants.{SetHandle, EndHandle, SetCell, EndCell, SetField, Make, TurnHusk}
use Rattle.trace_types.specs.declared.kinds.Field.{Field}
use Rattle.trace_types.specs.declared.kinds.Field.TheVariants as field
use Rattle.trace_types.specs.declared.outcomes.Event.{Event}
use Rattle.trace_types.specs.declared.outcomes.Outcome.{Outcome}
use Rattle.trace_types.specs.declared.outcomes.Verdict.TheVariants.{Did}
use Rattle.trace_types.specs.Operation.{Operation}
use Rattle.ownership_model.specs.Totals.{total_in, total}
use Rattle.ownership_model.specs.State.{State, nothing_held, weight, holding_weight, entry_weight, names_alike, ends, IsSoundAt, IsPointer, AreCountsSound, IsSound, is_alive}
use Rattle.ownership_model.specs.Release.{Fate, Stays, Falls, Goes, fate, fall, is_husk, Dropped, left_by, drop_first, Released, release_within, release, work, alive_size}
use Rattle.ownership_model.specs.Scopes.{scope_of, kept_or_entered, left}
use Rattle.ownership_model.specs.Changes.{with_field, changed_by, changed, HasField, CanBeDone, CanChange}
use Rattle.ownership_model.specs.View.{Members, members, Read, Null, Me, View, held_by, cell_of, elements_of, named_in, seen, view_at}
use Rattle.ownership_model.specs.Table.{row}
use Rattle.ownership_model.specs.Step.{step, carried_out, counts_of, outcomes_from}
use Rattle.ownership_model.specs.Step as real
use Rattle.ownership_model.specs.declared.plan.Plan.{Plan}
use Rattle.ownership_model.specs.declared.plan.Plan.TheVariants.{Skip, Act}
use Rattle.ownership_model.proofs.TotalLemmas.{weight_at, total-insert, total-zero}
use Rattle.ownership_model.proofs.MapLemmas.{get_inserted, get_removed}
use Rattle.ownership_model.proofs.ReleaseLemmas.{release-enough}
use Rattle.ownership_model.proofs.ScopeLemmas.{changed_scoped, nothing_scoped}
use Rattle.ownership_model.proofs.Listed.{Lists, look, cut, set, count, fate_in, Left, meet_in, Ended, dropped_in, change_in, changes_in, look_if, elements_in, seen_in, view_in, counts_in, Stepped, cascade_in, carried_in, step_in, told_after, nothing_listed, told}
use Rattle.ownership_model.proofs.CarryLemmas.{changed_pointers}
use Rattle.ownership_model.proofs.ReplayLemmas.{nothing_sound}

-- no key stands twice
abbrev pub AreApart : {X : Type 0} → List (ℕ × X) → Type 0
AreApart [] = Unit {0}
AreApart (e ∷ es) = (look e.0 es ≡ None) × AreApart es

pub record IsApart (m : Lists) : Type 0 where
  pub handles : AreApart m.handles
  pub cells : AreApart m.cells
  pub objects : AreApart m.objects

-- the state that the lists show
abbrev pub shown : Lists → State
shown m = record { handles = from_entries m.handles; cells = from_entries m.cells; objects = from_entries m.objects; scopes = m.scopes }

module _ {X : Type 0} where
  abbrev map_of : List (ℕ × X) → FinMap nat_cmp X
  map_of es = from_entries es

  pub get-map_of : (es : List (ℕ × X)) (q : ℕ) → get (map_of es) q ≡ look q es
  get-map_of [] q = get-empty nat_cmp q
  get-map_of (e ∷ es) q = get_inserted (map_of es) e.0 e.1 q ∙ ap (λ r. if e.0 == q then Some e.1 else r) (get-map_of es q)

  either_none : (b : Bool) (x : Option X) → x ≡ None → (if b then None else x) ≡ None
  either_none true x is = refl
  either_none false x is = is

  asked_twice : (b : Bool) (x y : Option X) → (if b then x else (if b then None else y)) ≡ (if b then x else y)
  asked_twice true x y = refl
  asked_twice false x y = refl

  no_key : (b : Bool) (x : Option X) → b ≡ true → (if b then None else x) ≡ None
  no_key true x t = refl
  no_key false x t = absurd cc

  look-cut : (k q : ℕ) (es : List (ℕ × X)) → look q (cut k es) ≡ (if k == q then None else look q es)
  look-cut k q [] = sym (either_none (k == q) None refl)
  look-cut k q (e ∷ es) = grind (arith, nat_tests, look-cut k q es)

  set-map_of : (k : ℕ) (x : X) (es : List (ℕ × X)) → map_of (set k x es) ≡ insert (map_of es) k x
  set-map_of k x es = same_map nat_cmp_total nat_cmp-IsAntisymmetric (map_of (set k x es)) (insert (map_of es) k x) (λ q.
      get-map_of (set k x es) q ∙ ap (λ r. if k == q then Some x else r) (look-cut k q es) ∙ asked_twice (k == q) (Some x) (look q es)
      ∙ ap (λ r. if k == q then Some x else r) (sym (get-map_of es q)) ∙ sym (get_inserted (map_of es) k x q))

  cut-map_of : (k : ℕ) (es : List (ℕ × X)) → map_of (cut k es) ≡ remove (map_of es) k
  cut-map_of k es = same_map nat_cmp_total nat_cmp-IsAntisymmetric (map_of (cut k es)) (remove (map_of es) k) (λ q.
      get-map_of (cut k es) q ∙ look-cut k q es ∙ ap (λ r. if k == q then None else r) (sym (get-map_of es q)) ∙ sym (get_removed (map_of es) k q))

  cut_none : (k q : ℕ) (es : List (ℕ × X)) → look q es ≡ None → look q (cut k es) ≡ None
  cut_none k q es none = look-cut k q es ∙ either_none (k == q) (look q es) none

  cut_apart : (k : ℕ) (es : List (ℕ × X)) → AreApart es → AreApart (cut k es)
  cut_apart k [] apart = tt
  cut_apart k (e ∷ es) apart = elim (e.0 == k) as (λ b. AreApart (if b then cut k es else e ∷ cut k es)) [
    | true ↦ cut_apart k es apart.1
    | false ↦ (cut_none k e.0 es apart.0, cut_apart k es apart.1)
  ]

  set_apart : (k : ℕ) (x : X) (es : List (ℕ × X)) → AreApart es → AreApart (set k x es)
  set_apart k x es apart = (look-cut k k es ∙ no_key (k == k) (look k es) (grind (arith, nat_tests)), cut_apart k es apart)

  total-map_of : (w : X → ℕ) (es : List (ℕ × X)) → AreApart es → total w (map_of es) ≡ total_in w es
  total-map_of w [] apart = total-zero w (map_of []) (λ q. ap (weight_at w) (get-empty nat_cmp q))
  total-map_of w (e ∷ es) apart =
      let more : total w (insert (map_of es) e.0 e.1) + 0 ≡ total w (map_of es) + w e.1 =
      subst (λ (r : Option X). total w (insert (map_of es) e.0 e.1) + weight_at w r ≡ total w (map_of es) + w e.1) (get-map_of es e.0 ∙ apart.0) (total-insert w (map_of es) e.0 e.1) in
      omega (arith, more, total-map_of w es apart.1)

count-shown : (s : Slot) (m : Lists) (pending : List Item) → IsApart m → weight (names_alike s) (shown m) pending ≡ count s m pending
count-shown s m pending apart = omega (arith, total-map_of (holding_weight (names_alike s)) m.handles apart.handles, total-map_of (names_alike s) m.cells apart.cells, total-map_of (entry_weight (names_alike s)) m.objects apart.objects)

pub work-shown : (m : Lists) (pending : List Item) → IsApart m → work (shown m) pending ≡ total_in alive_size m.objects + length pending
work-shown m pending apart = omega (arith, total-map_of alive_size m.objects apart.objects)

-- ---- changes
change_apart : (m : Lists) (c : Change) → IsApart m → IsApart (change_in m c)
change_apart m (SetHandle t h x) a = record { handles = set_apart h x m.handles a.handles; cells = a.cells; objects = a.objects }
change_apart m (EndHandle h) a = record { handles = cut_apart h m.handles a.handles; cells = a.cells; objects = a.objects }
change_apart m (SetCell c s) a = record { handles = a.handles; cells = set_apart c s m.cells a.cells; objects = a.objects }
change_apart m (EndCell c) a = record { handles = a.handles; cells = cut_apart c m.cells a.cells; objects = a.objects }
change_apart m (SetField o i s) a = record { handles = a.handles; cells = a.cells; objects = set_apart o (with_field (look o m.objects) i s) m.objects a.objects }
change_apart m (Make o fields) a = record { handles = a.handles; cells = a.cells; objects = set_apart o (Alive fields) m.objects a.objects }
change_apart m (TurnHusk o) a = record { handles = a.handles; cells = a.cells; objects = set_apart o Husk m.objects a.objects }

objects-shown : (m : Lists) (x : List (ℕ × Entry)) (y : FinMap nat_cmp Entry) → from_entries x ≡ y → shown (record m { objects = x }) ≡ record (shown m) { objects = y }
objects-shown m x y e = λ i. record { handles = from_entries m.handles; cells = from_entries m.cells; objects = e i; scopes = m.scopes }

pub change-shown : (m : Lists) (c : Change) → shown (change_in m c) ≡ changed_by (shown m) c
change-shown m (SetHandle t h x) = λ i. record { handles = set-map_of h x m.handles i; cells = from_entries m.cells; objects = from_entries m.objects; scopes = kept_or_entered (sym (get-map_of m.handles h) i) t h m.scopes }
change-shown m (EndHandle h) = λ i. record { handles = cut-map_of h m.handles i; cells = from_entries m.cells; objects = from_entries m.objects; scopes = left h m.scopes }
change-shown m (SetCell c s) = λ i. record { handles = from_entries m.handles; cells = set-map_of c s m.cells i; objects = from_entries m.objects; scopes = m.scopes }
change-shown m (EndCell c) = λ i. record { handles = from_entries m.handles; cells = cut-map_of c m.cells i; objects = from_entries m.objects; scopes = m.scopes }
change-shown m (SetField o i s) =
    objects-shown m (set o (with_field (look o m.objects) i s) m.objects) (insert (from_entries m.objects) o (with_field (get (from_entries m.objects) o) i s))
    (set-map_of o (with_field (look o m.objects) i s) m.objects ∙ ap (λ e. insert (from_entries m.objects) o (with_field e i s)) (sym (get-map_of m.objects o)))
change-shown m (Make o fields) = objects-shown m (set o (Alive fields) m.objects) (insert (from_entries m.objects) o (Alive fields)) (set-map_of o (Alive fields) m.objects)
change-shown m (TurnHusk o) = objects-shown m (set o Husk m.objects) (insert (from_entries m.objects) o Husk) (set-map_of o Husk m.objects)

pub changes_apart : (changes : List Change) (m : Lists) → IsApart m → IsApart (changes_in m changes)
changes_apart [] m a = a
changes_apart (c ∷ changes) m a = changes_apart changes (change_in m c) (change_apart m c a)

pub changes-shown : (changes : List Change) (m : Lists) → shown (changes_in m changes) ≡ changed (shown m) changes
changes-shown [] m = refl
changes-shown (c ∷ changes) m = changes-shown changes (change_in m c) ∙ ap (λ s. changed s changes) (change-shown m c)

-- ---- a cascade
fate-shown : (m : Lists) (x : Item) (rest : List Item) → IsApart m → fate_in m x rest ≡ fate (shown m) x rest
fate-shown m (item.Slot Nothing) rest a = refl
fate-shown m (item.Slot Dangling) rest a = refl
fate-shown m (item.Slot (Strong o)) rest a = λ i. if sym (count-shown (Strong o) m rest a) i == 0 then fall o (sym (get-map_of m.objects o) i) else Stays
fate-shown m (item.Slot (Weak o)) rest a =
    λ i. if sym (count-shown (Weak o) m rest a) i == 0 && (is_husk (sym (get-map_of m.objects o) i) && (ends o rest == 0)) then Goes o else Stays
fate-shown m (item.End o) rest a = λ i. if sym (count-shown (Weak o) m rest a) i == 0 then Goes o else Stays

pub record Leaves (x : Left) (d : Dropped) : Type 0 where
  pub state : shown x.state ≡ d.state
  pub events : x.events ≡ d.events
  pub pending : x.pending ≡ d.pending
  pub apart : IsApart x.state

left_by-shown : (m : Lists) (rest : List Item) (f : Fate) → IsApart m → Leaves (meet_in m rest f) (left_by (shown m) rest f)
left_by-shown m rest Stays a = record { state = refl; events = refl; pending = refl; apart = a }
left_by-shown m rest (Falls o fields) a = record { state = change-shown m (TurnHusk o); events = refl; pending = refl; apart = change_apart m (TurnHusk o) a }
left_by-shown m rest (Goes o) a = record { state = objects-shown m (cut o m.objects) (remove (from_entries m.objects) o) (cut-map_of o m.objects); events = refl; pending = refl; apart = record { handles = a.handles; cells = a.cells; objects = cut_apart o m.objects a.objects } }

pub drop-shown : (m : Lists) (x : Item) (rest : List Item) → IsApart m → Leaves (meet_in m rest (fate_in m x rest)) (drop_first (shown m) x rest)
drop-shown m x rest a = subst (λ f. Leaves (meet_in m rest (fate_in m x rest)) (left_by (shown m) rest f)) (fate-shown m x rest a) (left_by-shown m rest (fate_in m x rest) a)

record Ends (x : Ended) (es : List Event) (r : Released) : Type 0 where
  state : shown x.state ≡ r.state
  events : x.events ≡ es ++ r.events
  apart : IsApart x.state

within-shown : (n : ℕ) (m : Lists) (es : List Event) (pending : List Item) → IsApart m → Ends (dropped_in n m es pending) es (release_within n (shown m) pending)
within-shown n m es [] a = record { state = refl; events = sym (append-nil es); apart = a }
within-shown zero m es (x ∷ pending) a = record { state = refl; events = sym (append-nil es); apart = a }
within-shown (suc n) m es (x ∷ pending) a =
    let d : Left = meet_in m pending (fate_in m x pending) in
    let r : Dropped = drop_first (shown m) x pending in
    let one : Leaves d r = drop-shown m x pending a in
    let rest : Ends (dropped_in n d.state d.events d.pending) d.events (release_within n (shown d.state) d.pending) = within-shown n d.state d.events d.pending one.apart in
    let same : release_within n (shown d.state) d.pending ≡ release_within n r.state r.pending = λ i. release_within n (one.state i) (one.pending i) in
    record {
      state = rest.state ∙ ap (λ (y : Released). y.state) same;
      events = ap (λ ys. es ++ ys) (rest.events ∙ (λ i. one.events i ++ (same i).events));
      apart = rest.apart;
    }

cascade-shown : (m : Lists) (pending : List Item) → IsApart m → Ends (cascade_in m pending) [] (release (shown m) pending)
cascade-shown m pending a =
    let n : ℕ = total_in alive_size m.objects + length pending in
    subst (λ r. Ends (cascade_in m pending) [] r) (sym (release-enough n (shown m) pending (omega (arith, work-shown m pending a)))) (within-shown n m [] pending a)

-- ---- what an operation reads
elements-shown : (m : Lists) (fields : List Field) → elements_in m fields ≡ elements_of (shown m) fields
elements-shown m [] = refl
elements-shown m (field.Held h ∷ fields) = λ i. Read h (sym (get-map_of m.handles h) i) ∷ elements-shown m fields i
elements-shown m (field.Null ∷ fields) = ap (λ es. Null ∷ es) (elements-shown m fields)
elements-shown m (field.Me ∷ fields) = ap (λ es. Me ∷ es) (elements-shown m fields)

pub held-shown : (m : Lists) (h : Option ℕ) → look_if h m.handles ≡ held_by (shown m) h
held-shown m None = refl
held-shown m (Some h) = sym (get-map_of m.handles h)

cell-shown : (m : Lists) (c : Option ℕ) → look_if c m.cells ≡ cell_of (shown m) c
cell-shown m None = refl
cell-shown m (Some c) = sym (get-map_of m.cells c)

seen-shown : (m : Lists) (o : Option ℕ) → IsApart m → seen_in m o ≡ seen (shown m) o
seen-shown m None a = refl
seen-shown m (Some o) a = λ i. record { entry = sym (get-map_of m.objects o) i; strong = sym (count-shown (Strong o) m [] a) i; weak = sym (count-shown (Weak o) m [] a) i }

pub view-shown : (m : Lists) (k : Members) → IsApart m → view_in m k ≡ view_at (shown m) k
view-shown m k a =
    let object : seen_in m (named_in (look_if k.first m.handles)) ≡ seen (shown m) (named_in (held_by (shown m) k.first)) =
    seen-shown m (named_in (look_if k.first m.handles)) a ∙ ap (λ h. seen (shown m) (named_in h)) (held-shown m k.first) in
    λ i. record {
      first = held-shown m k.first i;
      second = held-shown m k.second i;
      cell = cell-shown m k.cell i;
      elements = elements-shown m k.fields i;
      object = object i;
    }

-- ---- an operation, and all of them
counts-shown : (m : Lists) (o : Option ℕ) → IsApart m → counts_in m o ≡ counts_of (shown m) o
counts-shown m None a = refl
counts-shown m (Some o) a = λ i. Some (record { object = o; strong = sym (count-shown (Strong o) m [] a) i; weak = sym (count-shown (Weak o) m [] a) i })

pub record Steps (x : Stepped) (y : real.Stepped) : Type 0 where
  pub state : shown x.state ≡ y.state
  pub outcome : x.outcome ≡ y.outcome
  pub apart : IsApart x.state

carried-shown : (m : Lists) (id : ℕ) (p : Plan) → IsApart m → Steps (carried_in m id p) (carried_out (shown m) id p)
carried-shown m id (Skip why) a = record { state = refl; outcome = refl; apart = a }
carried-shown m id (Act answer changes event pending object) a =
    let n : Lists = changes_in m changes in
    let x : Ended = cascade_in n pending in
    let r : Released = release (changed (shown m) changes) pending in
    let e : Ends x [] r = subst (λ s. Ends x [] (release s pending)) (changes-shown changes m) (cascade-shown n pending (changes_apart changes m a)) in
    let told_counts : counts_in x.state object ≡ counts_of r.state object = counts-shown x.state object e.apart ∙ ap (λ s. counts_of s object) e.state in
    record {
      state = e.state;
      outcome = λ i. record { id = id; verdict = Did answer; events = option_to_list event ++ e.events i; counts = told_counts i };
      apart = e.apart;
    }

pub step-shown : (m : Lists) (op : Operation) → IsApart m → Steps (step_in m op) (step (shown m) op)
unfolding step
step-shown m op a = subst (λ (v : View). Steps (step_in m op) (carried_out (shown m) op.id (row op v))) (view-shown m (members (scope_of op.thread m.scopes) op.kind) a) (carried-shown m op.id (row op (view_in m (members (scope_of op.thread m.scopes) op.kind))) a)

told-shown : (ops : List Operation) (done : List Outcome) (m : Lists) → IsApart m → told_after done m ops ≡ done ++ outcomes_from (shown m) ops
told-shown [] done m a = sym (append-nil done)
told-shown (op ∷ ops) done m a =
    let s : Steps (step_in m op) (step (shown m) op) = step-shown m op a in
    told-shown ops (done ++ (step_in m op).outcome ∷ []) (step_in m op).state s.apart
    ∙ append_assoc done ((step_in m op).outcome ∷ []) (outcomes_from (shown (step_in m op).state) ops)
    ∙ (λ i. done ++ s.outcome i ∷ outcomes_from (s.state i) ops)

-- so the replay of a trace is found by computation
pub replayed : (ops : List Operation) → outcomes_from nothing_held ops ≡ told ops
replayed ops = sym (told-shown ops [] nothing_listed (record { handles = tt; cells = tt; objects = tt }))

-- and so are the events of a release of what changes make of nothing
pub cascaded : (changes : List Change) (pending : List Item) → (release (changed nothing_held changes) pending).events ≡ (cascade_in (changes_in nothing_listed changes) pending).events
cascaded changes pending =
    let n : Lists = changes_in nothing_listed changes in
    let apart : IsApart n = changes_apart changes nothing_listed (record { handles = tt; cells = tt; objects = tt }) in
    let e : Ends (cascade_in n pending) [] (release (changed nothing_held changes) pending) =
    subst (λ s. Ends (cascade_in n pending) [] (release s pending)) (changes-shown changes nothing_listed) (cascade-shown n pending apart) in
    sym e.events

-- ---- what changes make of nothing can be asked of the lists
abbrev pub AreCountsSoundIn : Lists → List Item → Type 0
AreCountsSoundIn m pending = (o : ℕ) → IsSoundAt (count (Strong o) m pending) (count (Weak o) m pending) (ends o pending) (look o m.objects)

pub sound_made : (changes : List Change) (pending : List Item) → CanChange nothing_held changes → AreCountsSoundIn (changes_in nothing_listed changes) pending → IsSound (changed nothing_held changes) pending
sound_made changes pending can is =
    let n : Lists = changes_in nothing_listed changes in
    let apart : IsApart n = changes_apart changes nothing_listed (record { handles = tt; cells = tt; objects = tt }) in
    let all : AreCountsSound (shown n) pending = λ o.
    subst (λ (e : Option Entry). IsSoundAt (weight (names_alike (Strong o)) (shown n) pending) (weight (names_alike (Weak o)) (shown n) pending) (ends o pending) e) (sym (get-map_of n.objects o))
    (subst (λ (w : ℕ). IsSoundAt (weight (names_alike (Strong o)) (shown n) pending) w (ends o pending) (look o n.objects)) (sym (count-shown (Weak o) n pending apart))
    (subst (λ (s : ℕ). IsSoundAt s (count (Weak o) n pending) (ends o pending) (look o n.objects)) (sym (count-shown (Strong o) n pending apart)) (is o))) in
    record {
      counts = subst (λ (s : State). AreCountsSound s pending) (changes-shown changes nothing_listed) all;
      cells = changed_pointers changes nothing_held can nothing_sound.cells;
      scopes = changed_scoped changes nothing_held nothing_scoped;
    }

abbrev pub CanBeDoneIn : Lists → Change → Type 0
CanBeDoneIn m (SetHandle t h x) = Unit {0}
CanBeDoneIn m (EndHandle h) = IsSome (look h m.handles)
CanBeDoneIn m (SetCell c s) = IsPointer s
CanBeDoneIn m (EndCell c) = IsSome (look c m.cells)
CanBeDoneIn m (SetField o i s) = HasField (look o m.objects) i
CanBeDoneIn m (Make o fields) = look o m.objects ≡ None
CanBeDoneIn m (TurnHusk o) = IsTrue (is_alive (look o m.objects))

abbrev pub CanChangeIn : Lists → List Change → Type 0
CanChangeIn m [] = Unit {0}
CanChangeIn m (c ∷ cs) = CanBeDoneIn m c × CanChangeIn (change_in m c) cs

can-shown : (m : Lists) (c : Change) → CanBeDoneIn m c → CanBeDone (shown m) c
can-shown m (SetHandle t h x) can = tt
can-shown m (EndHandle h) can = subst (λ (e : Option Holding). IsSome e) (sym (get-map_of m.handles h)) can
can-shown m (SetCell c s) can = can
can-shown m (EndCell c) can = subst (λ (e : Option Slot). IsSome e) (sym (get-map_of m.cells c)) can
can-shown m (SetField o i s) can = subst (λ (e : Option Entry). HasField e i) (sym (get-map_of m.objects o)) can
can-shown m (Make o fields) can = get-map_of m.objects o ∙ can
can-shown m (TurnHusk o) can = ap is_alive (get-map_of m.objects o) ∙ can

can_change-shown : (changes : List Change) (m : Lists) → CanChangeIn m changes → CanChange (shown m) changes
can_change-shown [] m can = tt
can_change-shown (c ∷ changes) m can =
    (can-shown m c can.0, subst (λ (s : State). CanChange s changes) (change-shown m c) (can_change-shown changes (change_in m c) can.1))

pub can_be_made : (changes : List Change) → CanChangeIn nothing_listed changes → CanChange nothing_held changes
can_be_made changes can = can_change-shown changes nothing_listed can
