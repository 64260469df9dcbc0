-- What an operation does to leaked objects: nothing. Their fields stay, and no field gains an Arc to one. And what it makes, a handle
-- then holds.
use Rattle.std.proofs.Common.{◌≡◌, ℕ, zero, suc, List, [], ◌∷◌, ◌++◌, refl, sym, ap, ◌∙◌, subst, arith, Bool, true, false, inl, inr}
use Rattle.std.specs.Prelude.{Option, Some, None, ◌==◌, ◌||◌, ◌&&◌, not, if◌then◌else◌, slice_get, slice_set}
use Rattle.std.proofs.lemmas.Bool.Decides.{nat_tests}
use Rattle.std.specs.FinMap.{get, insert}
use Rattle.trace_types.specs.declared.slots.Slot.{Slot}
use Rattle.trace_types.specs.declared.slots.Slot.TheVariants.{Nothing, Strong, Weak, Dangling}
use Rattle.trace_types.specs.declared.slots.Holding.{Holding}
use Rattle.trace_types.specs.declared.slots.Holding.TheVariants as holding
use Rattle.trace_types.specs.declared.slots.Entry.{Entry}
use Rattle.trace_types.specs.declared.slots.Entry.TheVariants.{Alive, Husk}
use Rattle.trace_types.specs.declared.slots.Change.{Change}
use Rattle.trace_types.specs.declared.slots.Change.TheVariants.{SetHandle, EndHandle, SetCell, EndCell, SetField, Make, TurnHusk}
use Rattle.trace_types.specs.declared.kinds.Field.{Field}
use Rattle.trace_types.specs.declared.kinds.Field.TheVariants as field
use Rattle.trace_types.specs.Operation.{Operation}
use Rattle.ownership_model.specs.Totals.{total}
use Rattle.ownership_model.specs.State.{State, strong, weak, ends, names_alike, entry_weight, holding_weight, is_alive, IsSound, IsSoundAt}
use Rattle.ownership_model.specs.Scopes.{scope_of}
use Rattle.ownership_model.specs.Changes.{changed, changed_by, with_field}
use Rattle.ownership_model.specs.Carry.{IsCarriable}
use Rattle.ownership_model.specs.Release.{release}
use Rattle.ownership_model.specs.Cascade.{times_destroyed, times_freed, HuskCourse, Course}
use Rattle.ownership_model.specs.Falling.{FallsWith, IsClosed, is_destroyed, CascadesTo}
use Rattle.ownership_model.specs.View.{Members, members, held_by, elements_of, named_in, seen, view_at, view_of}
use Rattle.ownership_model.specs.Table.{row}
use Rattle.ownership_model.specs.Step.{step, carried_out}
use Rattle.ownership_model.specs.Leaks.{IsLeaked}
use Rattle.ownership_model.specs.declared.plan.Plan.{Plan}
use Rattle.ownership_model.specs.declared.plan.Plan.TheVariants.{Skip, Act}
use Rattle.ownership_model.specs.declared.link.Link.TheVariants.{StrongOnly}
use Rattle.ownership_model.specs.Reach.{named, slots_names, holding_names, entry_names, root_names, field_names, has, is_reached, Reaches, Reaches.by_root, Reaches.by_field}
use Rattle.ownership_model.proofs.Searching.{has-append, or_left, or_right}
use Rattle.ownership_model.proofs.MapLemmas.{get_inserted}
use Rattle.ownership_model.proofs.CountLemmas.{get_set_other, same_number}
use Rattle.ownership_model.proofs.TotalLemmas.{total-zero}
use Rattle.ownership_model.proofs.NamedLemmas.{none_named, named_entry, roots_unnamed}
use Rattle.ownership_model.proofs.LawsHold as model
use Rattle.retention_model.specs.declared.place.Place.TheVariants.{Handle, Field as FieldOf}
use Rattle.retention_model.specs.Places.{at, held_at, field_at}
use Rattle.retention_model.proofs.SpareLemmas.{SparesSlot, SpareSlots, SparesHolding, SparesEntry, IfThere, SparesChange, SpareChanges, HoldMade, SparesPlan, SpareElements, SparesView, spares_row}

-- ---- which objects leaked, as a test

abbrev pub is_leaked : State → ℕ → Bool
is_leaked m o = is_alive (get m.objects o) && not (is_reached StrongOnly m o)

both_hold : (a b : Bool) → a ≡ true → b ≡ false → (a && not b) ≡ true
both_hold true true p q = absurd cc
both_hold true false p q = refl
both_hold false b p q = absurd cc

second_fails : (a b : Bool) → b ≡ true → (a && not b) ≡ false
second_fails true true q = refl
second_fails true false q = absurd cc
second_fails false b q = refl

first_held : (a b : Bool) → (a && not b) ≡ true → a ≡ true
first_held true b h = refl
first_held false b h = absurd cc

second_failed : (a b : Bool) → (a && not b) ≡ true → b ≡ false
second_failed true true h = absurd cc
second_failed true false h = refl
second_failed false b h = absurd cc

module _ (m : State) where
  abbrev pub leaks : ℕ → Bool
  leaks o = is_leaked m o

  not_reached : (o : ℕ) (b : Bool) → is_reached StrongOnly m o ≡ b → (Reaches StrongOnly m o → ⊥) → b ≡ false
  not_reached o true e never = absurd (never ((model.reach.reached StrongOnly m o).0 e))
  not_reached o false e never = refl

  pub leaked_told : (o : ℕ) → IsLeaked m o → leaks o ≡ true
  leaked_told o it = both_hold (is_alive (get m.objects o)) (is_reached StrongOnly m o) it.alive (not_reached o (is_reached StrongOnly m o) refl it.unreached)

  never_both : (b : Bool) → b ≡ true → b ≡ false → ⊥
  never_both b p q = cc

  pub told_leaked : (o : ℕ) → leaks o ≡ true → IsLeaked m o
  told_leaked o h = record {
    alive = first_held (is_alive (get m.objects o)) (is_reached StrongOnly m o) h;
    unreached = λ r. never_both (is_reached StrongOnly m o) ((model.reach.reached StrongOnly m o).1 r) (second_failed (is_alive (get m.objects o)) (is_reached StrongOnly m o) h);
  }

  reached_spared : (o : ℕ) → is_reached StrongOnly m o ≡ true → leaks o ≡ false
  reached_spared o h = second_fails (is_alive (get m.objects o)) (is_reached StrongOnly m o) h

-- ---- what names none of a set is no Arc to one of it

same_name : (o : ℕ) → has o (o ∷ []) ≡ true
same_name o = grind (arith, nat_tests)

module _ (r : ℕ → Bool) where
  abbrev NameNone : List ℕ → Type 0
  NameNone os = (o : ℕ) → has o os ≡ true → r o ≡ false

  none_left : (xs ys : List ℕ) → NameNone (xs ++ ys) → NameNone xs
  none_left xs ys f o h = f o (has-append o xs ys ∙ or_left (has o xs) (has o ys) h)

  none_right : (xs ys : List ℕ) → NameNone (xs ++ ys) → NameNone ys
  none_right xs ys f o h = f o (has-append o xs ys ∙ or_right (has o xs) (has o ys) h)

  slot_spares : (s : Slot) → NameNone (named StrongOnly s) → SparesSlot r s
  slot_spares Nothing f = tt
  slot_spares (Strong o) f = f o (same_name o)
  slot_spares (Weak o) f = tt
  slot_spares Dangling f = tt

  slots_spare : (ss : List Slot) → NameNone (slots_names StrongOnly ss) → SpareSlots r ss
  slots_spare [] f = tt
  slots_spare (s ∷ ss) f = (
    slot_spares s (none_left (named StrongOnly s) (slots_names StrongOnly ss) f),
    slots_spare ss (none_right (named StrongOnly s) (slots_names StrongOnly ss) f),
  )

  holding_spares : (x : Option Holding) → NameNone (holding_names StrongOnly x) → IfThere (SparesHolding r) x
  holding_spares None f = tt
  holding_spares (Some (holding.Slot s)) f = slot_spares s f
  holding_spares (Some (holding.Bare fields)) f = slots_spare fields f

  entry_spares : (x : Option Entry) → NameNone (entry_names StrongOnly x) → IfThere (SparesEntry r) x
  entry_spares None f = tt
  entry_spares (Some (Alive fields)) f = slots_spare fields f
  entry_spares (Some Husk) f = tt

-- ---- what an operation reads spares what leaked
module _ (m : State) where
  handle_spared : (h : ℕ) → IfThere (SparesHolding (leaks m)) (get m.handles h)
  handle_spared h = holding_spares (leaks m) (get m.handles h) (λ o is. reached_spared m o (model.named.by_handle StrongOnly m h o is))

  held_spared : (h : Option ℕ) → IfThere (SparesHolding (leaks m)) (held_by m h)
  held_spared None = tt
  held_spared (Some h) = handle_spared h

  elements_spared : (fs : List Field) → SpareElements (leaks m) (elements_of m fs)
  elements_spared [] = tt
  elements_spared (field.Held h ∷ fs) = (handle_spared h, elements_spared fs)
  elements_spared (field.Null ∷ fs) = (tt, elements_spared fs)
  elements_spared (field.Me ∷ fs) = (tt, elements_spared fs)

  own_fields : (h : Option ℕ) (o : ℕ) → held_by m h ≡ Some (holding.Slot (Strong o)) → IfThere (SparesEntry (leaks m)) (get m.objects o)
  own_fields None o e = absurd cc
  own_fields (Some h) o e =
      let here : is_reached StrongOnly m o ≡ true = model.named.by_handle StrongOnly m h o (subst (λ (x : Option Holding). has o (holding_names StrongOnly x) ≡ true) (sym e) (same_name o)) in
      entry_spares (leaks m) (get m.objects o) (λ p is. reached_spared m p (model.named.by_field StrongOnly m o p here is))

  seen_spared : (h : Option ℕ) (o : ℕ) → held_by m h ≡ Some (holding.Slot (Strong o)) → IfThere (SparesEntry (leaks m)) (seen m (named_in (held_by m h))).entry
  seen_spared h o e = subst (λ (x : Option Holding). IfThere (SparesEntry (leaks m)) (seen m (named_in x)).entry) (sym e) (own_fields h o e)

  view_spared : (a : Members) → SparesView (leaks m) (view_at m a)
  view_spared a = record {
    first = held_spared a.first;
    second = held_spared a.second;
    elements = elements_spared a.fields;
    object = seen_spared a.first;
  }

  plan_spared : (op : Operation) → get m.objects op.id ≡ None → SparesPlan (leaks m) (row op (view_of m op.thread op.kind))
  plan_spared op new =
      spares_row (leaks m) op (view_of m op.thread op.kind) (ap (λ (e : Option Entry). is_alive e && not (is_reached StrongOnly m op.id)) new)
      (view_spared (members (scope_of op.thread m.scopes) op.kind))

-- ---- what changes do
module _ (r : ℕ → Bool) where
  apart : (o b : ℕ) → r o ≡ false → r b ≡ true → (o == b) ≡ false
  apart o b out inside = elim (o == b) as (λ t. (o == b) ≡ t → (o == b) ≡ false) [
    | true ↦ λ e. let same : r o ≡ r b = ap r (same_number o b e) in absurd cc
    | false ↦ λ e. e
  ] refl

  object_stays : (n : State) (c : Change) (b : ℕ) → SparesChange r c → r b ≡ true → get (changed_by n c).objects b ≡ get n.objects b
  object_stays n (SetHandle t h x) b spare is = refl
  object_stays n (EndHandle h) b spare is = refl
  object_stays n (SetCell c s) b spare is = refl
  object_stays n (EndCell c) b spare is = refl
  object_stays n (SetField o i s) b spare is = get_set_other n.objects o (with_field (get n.objects o) i s) b (apart o b spare.0 is)
  object_stays n (Make o fields) b spare is = get_set_other n.objects o (Alive fields) b (apart o b spare.0 is)
  object_stays n (TurnHusk o) b spare is = get_set_other n.objects o Husk b (apart o b spare is)

  objects_stay : (cs : List Change) (n : State) (b : ℕ) → SpareChanges r cs → r b ≡ true → get (changed n cs).objects b ≡ get n.objects b
  objects_stay [] n b spare is = refl
  objects_stay (c ∷ cs) n b spare is = objects_stay cs (changed_by n c) b spare.1 is ∙ object_stays n c b spare.0 is

  no_arc : (s : Slot) (d : ℕ) → SparesSlot r s → r d ≡ true → s ≡ Strong d → ⊥
  no_arc s d spare is same = let out : r d ≡ false = subst (SparesSlot r) same spare in cc

  set_back : (fields : List Slot) (j : ℕ) (s : Slot) (i d : ℕ) → SparesSlot r s → r d ≡ true → slice_get (slice_set fields j s) i ≡ Some (Strong d) → slice_get fields i ≡ Some (Strong d)
  set_back [] j s i d spare is e = e
  set_back (f ∷ fields) zero s zero d spare is e = absurd (no_arc s d spare is cc)
  set_back (f ∷ fields) zero s (suc i) d spare is e = e
  set_back (f ∷ fields) (suc j) s zero d spare is e = e
  set_back (f ∷ fields) (suc j) s (suc i) d spare is e = set_back fields j s i d spare is e

  with_back : (x : Option Entry) (j : ℕ) (s : Slot) (i d : ℕ) → SparesSlot r s → r d ≡ true → field_at (Some (with_field x j s)) i ≡ Some (Strong d) → field_at x i ≡ Some (Strong d)
  with_back None j s i d spare is e = absurd cc
  with_back (Some Husk) j s i d spare is e = absurd cc
  with_back (Some (Alive fields)) j s i d spare is e = set_back fields j s i d spare is e

  none_there : (fields : List Slot) (i d : ℕ) → SpareSlots r fields → r d ≡ true → slice_get fields i ≡ Some (Strong d) → ⊥
  none_there [] zero d spare is e = cc
  none_there [] (suc i) d spare is e = cc
  none_there (s ∷ fields) zero d spare is e = no_arc s d spare.0 is cc
  none_there (s ∷ fields) (suc i) d spare is e = none_there fields i d spare.1 is e

  at_key : (n : State) (o : ℕ) (x : Entry) (c i d : ℕ) (b : Bool) → (o == c) ≡ b → (field_at (Some x) i ≡ Some (Strong d) → field_at (get n.objects o) i ≡ Some (Strong d))
      → field_at (if b then Some x else get n.objects c) i ≡ Some (Strong d) → field_at (get n.objects c) i ≡ Some (Strong d)
  at_key n o x c i d true same f e = subst (λ k. field_at (get n.objects k) i ≡ Some (Strong d)) (same_number o c same) (f e)
  at_key n o x c i d false other f e = e

  put_back : (n : State) (o : ℕ) (x : Entry) (c i d : ℕ) → (field_at (Some x) i ≡ Some (Strong d) → field_at (get n.objects o) i ≡ Some (Strong d))
      → field_at (get (insert n.objects o x) c) i ≡ Some (Strong d) → field_at (get n.objects c) i ≡ Some (Strong d)
  put_back n o x c i d f e = at_key n o x c i d (o == c) refl f (subst (λ (y : Option Entry). field_at y i ≡ Some (Strong d)) (get_inserted n.objects o x c) e)

  husk_holds_none : (n : State) (o i d : ℕ) → field_at (Some Husk) i ≡ Some (Strong d) → field_at (get n.objects o) i ≡ Some (Strong d)
  husk_holds_none n o i d e = absurd cc

  -- a field that holds an Arc to one of the set held it before
  field_back : (n : State) (x : Change) (c i d : ℕ) → SparesChange r x → r d ≡ true → field_at (get (changed_by n x).objects c) i ≡ Some (Strong d) → field_at (get n.objects c) i ≡ Some (Strong d)
  field_back n (SetHandle t h y) c i d spare is e = e
  field_back n (EndHandle h) c i d spare is e = e
  field_back n (SetCell k s) c i d spare is e = e
  field_back n (EndCell k) c i d spare is e = e
  field_back n (SetField o j s) c i d spare is e = put_back n o (with_field (get n.objects o) j s) c i d (with_back (get n.objects o) j s i d spare.1 is) e
  field_back n (Make o fields) c i d spare is e = put_back n o (Alive fields) c i d (λ h. absurd (none_there fields i d spare.1 is h)) e
  field_back n (TurnHusk o) c i d spare is e = put_back n o Husk c i d (husk_holds_none n o i d) e

  fields_back : (cs : List Change) (n : State) (c i d : ℕ) → SpareChanges r cs → r d ≡ true → field_at (get (changed n cs).objects c) i ≡ Some (Strong d) → field_at (get n.objects c) i ≡ Some (Strong d)
  fields_back [] n c i d spare is e = e
  fields_back (x ∷ cs) n c i d spare is e = field_back n x c i d spare.0 is (fields_back cs (changed_by n x) c i d spare.1 is e)

-- ---- what is made is held

put_dead : (n : State) (o : ℕ) (x : Entry) (p : ℕ) (b : Bool) → (o == p) ≡ b → is_alive (get n.objects p) ≡ false → ((o == p) ≡ true → is_alive (Some x) ≡ false)
    → is_alive (if b then Some x else get n.objects p) ≡ false
put_dead n o x p true same dead f = f same
put_dead n o x p false other dead f = dead

still_dead : (n : State) (o : ℕ) (x : Entry) (p : ℕ) → is_alive (get n.objects p) ≡ false → ((o == p) ≡ true → is_alive (Some x) ≡ false) → is_alive (get (insert n.objects o x) p) ≡ false
still_dead n o x p dead f = ap is_alive (get_inserted n.objects o x p) ∙ put_dead n o x p (o == p) refl dead f

field_dead : (x : Option Entry) (i : ℕ) (s : Slot) → is_alive x ≡ false → is_alive (Some (with_field x i s)) ≡ false
field_dead None i s dead = refl
field_dead (Some Husk) i s dead = refl
field_dead (Some (Alive fields)) i s dead = absurd cc

made_here : (n : State) (o p : ℕ) (x : Entry) (b : Bool) → (o == p) ≡ b → is_alive (get n.objects p) ≡ false → is_alive (if b then Some x else get n.objects p) ≡ true → o ≡ p
made_here n o p x true same dead alive = same_number o p same
made_here n o p x false other dead alive = absurd cc

self : (h : ℕ) → (h == h) ≡ true
self h = grind (arith, nat_tests)

-- a handle that holds the Arc to the object
abbrev HasHandle : State → ℕ → Type 0
HasHandle n p = (h : ℕ) × (get n.handles h ≡ Some (holding.Slot (Strong p)))

-- a new object, and then the handle that holds it
held_now : (n : State) (o : ℕ) (fields : List Slot) (t h p : ℕ) → is_alive (get n.objects p) ≡ false
    → is_alive (get (changed_by (changed_by n (Make o fields)) (SetHandle t h (holding.Slot (Strong o)))).objects p) ≡ true
    → HasHandle (changed_by (changed_by n (Make o fields)) (SetHandle t h (holding.Slot (Strong o)))) p
held_now n o fields t h p dead alive =
    let same : o ≡ p = made_here n o p (Alive fields) (o == p) refl dead (sym (ap is_alive (get_inserted n.objects o (Alive fields) p)) ∙ alive) in
    (h, get_inserted n.handles h (holding.Slot (Strong o)) h ∙ ap (λ b. if b then Some (holding.Slot (Strong o)) else get n.handles h) (self h) ∙ ap (λ k. Some (holding.Slot (Strong k))) same)

only_made : (cs : List Change) (n : State) (o : ℕ) (fields : List Slot) (t h p : ℕ) → cs ≡ SetHandle t h (holding.Slot (Strong o)) ∷ [] → is_alive (get n.objects p) ≡ false
    → is_alive (get (changed (changed_by n (Make o fields)) cs).objects p) ≡ true → HasHandle (changed (changed_by n (Make o fields)) cs) p
only_made cs n o fields t h p only dead alive =
    let there : (ds : List Change) → ds ≡ cs → is_alive (get (changed (changed_by n (Make o fields)) ds).objects p) ≡ true =
    λ ds e. subst (λ (es : List Change). is_alive (get (changed (changed_by n (Make o fields)) es).objects p) ≡ true) (sym e) alive in
    subst (λ (es : List Change). HasHandle (changed (changed_by n (Make o fields)) es) p) (sym only)
    (held_now n o fields t h p dead (there (SetHandle t h (holding.Slot (Strong o)) ∷ []) (sym only)))

held_made : (cs : List Change) (n : State) (p : ℕ) → HoldMade cs → is_alive (get n.objects p) ≡ false → is_alive (get (changed n cs).objects p) ≡ true → HasHandle (changed n cs) p
held_made [] n p held dead alive = absurd cc
held_made (SetHandle t h x ∷ cs) n p held dead alive = held_made cs (changed_by n (SetHandle t h x)) p held dead alive
held_made (EndHandle h ∷ cs) n p held dead alive = held_made cs (changed_by n (EndHandle h)) p held dead alive
held_made (SetCell c s ∷ cs) n p held dead alive = held_made cs (changed_by n (SetCell c s)) p held dead alive
held_made (EndCell c ∷ cs) n p held dead alive = held_made cs (changed_by n (EndCell c)) p held dead alive
held_made (SetField o i s ∷ cs) n p held dead alive =
    held_made cs (changed_by n (SetField o i s)) p held
    (still_dead n o (with_field (get n.objects o) i s) p dead (λ same. field_dead (get n.objects o) i s (ap (λ k. is_alive (get n.objects k)) (same_number o p same) ∙ dead))) alive
held_made (Make o fields ∷ cs) n p held dead alive = only_made cs n o fields held.0 held.1 p held.2 dead alive
held_made (TurnHusk o ∷ cs) n p held dead alive = held_made cs (changed_by n (TurnHusk o)) p held (still_dead n o Husk p dead (λ same. refl)) alive

-- ---- what a release does

husk_field : (g i : ℕ) (after : Option Entry) (s : Slot) → HuskCourse g after → field_at after i ≡ Some s → ⊥
husk_field g i after s (inl c) e = let none : field_at (Some Husk) i ≡ Some s = subst (λ (x : Option Entry). field_at x i ≡ Some s) c.1 e in cc
husk_field g i after s (inr c) e = let none : field_at None i ≡ Some s = subst (λ (x : Option Entry). field_at x i ≡ Some s) c.1 e in cc

-- a field that stands afterwards stood there before
course_field : (b : Option Entry) (d g : ℕ) (after : Option Entry) (i : ℕ) (s : Slot) → Course b d g after → field_at after i ≡ Some s → field_at b i ≡ Some s
course_field None d g after i s c e = let none : field_at None i ≡ Some s = subst (λ (x : Option Entry). field_at x i ≡ Some s) c.1.1 e in absurd cc
course_field (Some Husk) d g after i s c e = absurd (husk_field g i after s c.1 e)
course_field (Some (Alive fields)) d g after i s (inl c) e = subst (λ (x : Option Entry). field_at x i ≡ Some s) c.1.1 e
course_field (Some (Alive fields)) d g after i s (inr c) e = absurd (husk_field g i after s c.1 e)

husk_dead : (g : ℕ) (after : Option Entry) → HuskCourse g after → is_alive after ≡ true → ⊥
husk_dead g after (inl c) e = let dead : is_alive after ≡ false = ap is_alive c.1 in cc
husk_dead g after (inr c) e = let dead : is_alive after ≡ false = ap is_alive c.1 in cc

-- what lives afterwards lived before
course_alive : (b : Option Entry) (d g : ℕ) (after : Option Entry) → Course b d g after → is_alive after ≡ true → is_alive b ≡ true
course_alive None d g after c e = let dead : is_alive after ≡ false = ap is_alive c.1.1 in absurd cc
course_alive (Some Husk) d g after c e = absurd (husk_dead g after c.1 e)
course_alive (Some (Alive fields)) d g after c e = refl

-- what is not destroyed stays
course_stays : (b : Option Entry) (d g : ℕ) (after : Option Entry) → is_alive b ≡ true → Course b d g after → (not (d == 0) ≡ true → ⊥) → after ≡ b
course_stays None d g after alive c never = absurd cc
course_stays (Some Husk) d g after alive c never = absurd cc
course_stays (Some (Alive fields)) d g after alive (inl c) never = c.1.1
course_stays (Some (Alive fields)) d g after alive (inr c) never = absurd (never (grind (arith, nat_tests, c.0)))

-- an object that is alive is named
never_unnamed : (s w e : ℕ) (g : Option Entry) → is_alive g ≡ true → IsSoundAt s w e g → s ≡ 0 → ⊥
never_unnamed s w e None alive sound none = cc
never_unnamed s w e (Some (Alive fields)) alive sound none = omega (arith, sound.0, none)
never_unnamed s w e (Some Husk) alive sound none = cc

pub names_alive : (o : ℕ) (x : Option Entry) → has o (entry_names StrongOnly x) ≡ true → is_alive x ≡ true
names_alive o None h = absurd cc
names_alive o (Some (Alive fields)) h = refl
names_alive o (Some Husk) h = absurd cc

module _ (m : State) (sound : IsSound m []) where
  pub named_somewhere : (o : ℕ) → is_alive (get m.objects o) ≡ true → has o (root_names StrongOnly m) ≡ false → ((q : ℕ) → has o (field_names StrongOnly m q) ≡ false) → ⊥
  named_somewhere o alive unrooted unheld =
      let roots : (total (holding_weight (names_alike (Strong o))) m.handles ≡ 0) × (total (names_alike (Strong o)) m.cells ≡ 0) = roots_unnamed m o unrooted in
      let objects : total (entry_weight (names_alike (Strong o))) m.objects ≡ 0 =
      total-zero (entry_weight (names_alike (Strong o))) m.objects (λ q. none_named _ _ (named_entry o (get m.objects q)) (unheld q)) in
      never_unnamed (strong m [] o) (weak m [] o) (ends o []) (get m.objects o) alive (sound.counts o) (omega (arith, roots.0, roots.1, objects))

  -- n is m but for objects that didn't leak
  module _ (n : State) (same : (b : ℕ) → is_leaked m b ≡ true → get n.objects b ≡ get m.objects b) where
    -- a leaked object falls with none but leaked ones
    holder_leaked : (o q : ℕ) → IsLeaked m o → has o (field_names StrongOnly m q) ≡ true → is_leaked m q ≡ true
    holder_leaked o q it held =
        leaked_told m q (record { alive = names_alive o (get m.objects q) held; unreached = λ r. it.unreached (by_field q o r held) })

    not_true : (b : Bool) → not b ≡ true → b ≡ true → ⊥
    not_true true p q = cc
    not_true false p q = cc

    unheld_at : (o q : ℕ) (b : Bool) → has o (field_names StrongOnly m q) ≡ b → IsLeaked m o → FallsWith n (λ p. not (is_leaked m p)) o → b ≡ false
    unheld_at o q true held it falls =
        let there : is_leaked m q ≡ true = holder_leaked o q it held in
        absurd (not_true (is_leaked m q) (falls.held q (subst (λ (x : Option Entry). has o (entry_names StrongOnly x) ≡ true) (sym (same q there)) held)) there)
    unheld_at o q false held it falls = refl

    unrooted_at : (o : ℕ) (b : Bool) → has o (root_names StrongOnly m) ≡ b → IsLeaked m o → b ≡ false
    unrooted_at o true rooted it = absurd (it.unreached (by_root o rooted))
    unrooted_at o false rooted it = refl

    falls_never : (o : ℕ) → IsLeaked m o → FallsWith n (λ p. not (is_leaked m p)) o → ⊥
    falls_never o it falls =
        named_somewhere o it.alive (unrooted_at o (has o (root_names StrongOnly m)) refl it)
        (λ q. unheld_at o q (has o (field_names StrongOnly m q)) refl it falls)

    not_leaked : (o : ℕ) (b : Bool) → is_leaked m o ≡ b → FallsWith n (λ p. not (is_leaked m p)) o → not b ≡ true
    not_leaked o true e falls = absurd (falls_never o (told_leaked m o e) falls)
    not_leaked o false e falls = refl

    -- what didn't leak is a closed set
    rest_closed : IsClosed n (λ p. not (is_leaked m p))
    rest_closed o falls = not_leaked o (is_leaked m o) refl falls

  stays_carried : (id : ℕ) (p : Plan) (b : ℕ) → SparesPlan (leaks m) p → IsCarriable m p → IsLeaked m b → get (carried_out m id p).state.objects b ≡ get m.objects b
  stays_carried id (Skip why) b spare can it = refl
  stays_carried id (Act answer changes event pending object) b spare can it =
      let c : CascadesTo (changed m changes) (release (changed m changes) pending).state (release (changed m changes) pending).events = model.cascade.cascades (changed m changes) pending can.1 in
      let same : (q : ℕ) → is_leaked m q ≡ true → get (changed m changes).objects q ≡ get m.objects q = λ q e. objects_stay (leaks m) changes m q spare.0 e in
      let here : get (changed m changes).objects b ≡ get m.objects b = same b (leaked_told m b it) in
      course_stays (get (changed m changes).objects b) (times_destroyed b (release (changed m changes) pending).events) (times_freed b (release (changed m changes) pending).events)
      (get (release (changed m changes) pending).state.objects b) (ap is_alive here ∙ it.alive) (c.courses b)
      (λ destroyed. not_true (changed m changes) same (is_leaked m b) (c.destroyed.least (λ p. not (is_leaked m p)) (rest_closed (changed m changes) same) b destroyed) (leaked_told m b it))
      ∙ here

  came_carried : (id : ℕ) (p : Plan) (d k i : ℕ) → SparesPlan (leaks m) p → IsCarriable m p → IsLeaked m d
      → field_at (get (carried_out m id p).state.objects k) i ≡ Some (Strong d) → field_at (get m.objects k) i ≡ Some (Strong d)
  came_carried id (Skip why) d k i spare can it e = e
  came_carried id (Act answer changes event pending object) d k i spare can it e =
      let c : CascadesTo (changed m changes) (release (changed m changes) pending).state (release (changed m changes) pending).events = model.cascade.cascades (changed m changes) pending can.1 in
      fields_back (leaks m) changes m k i d spare.0 (leaked_told m d it)
      (course_field (get (changed m changes).objects k) (times_destroyed k (release (changed m changes) pending).events) (times_freed k (release (changed m changes) pending).events)
      (get (release (changed m changes) pending).state.objects k) i (Strong d) (c.courses k) e)

  made_carried : (id : ℕ) (p : Plan) (o : ℕ) → SparesPlan (leaks m) p → IsCarriable m p → is_alive (get m.objects o) ≡ false → is_alive (get (carried_out m id p).state.objects o) ≡ true
      → HasHandle (carried_out m id p).state o
  made_carried id (Skip why) o spare can dead alive = absurd cc
  made_carried id (Act answer changes event pending object) o spare can dead alive =
      let c : CascadesTo (changed m changes) (release (changed m changes) pending).state (release (changed m changes) pending).events = model.cascade.cascades (changed m changes) pending can.1 in
      let was : is_alive (get (changed m changes).objects o) ≡ true =
      course_alive (get (changed m changes).objects o) (times_destroyed o (release (changed m changes) pending).events) (times_freed o (release (changed m changes) pending).events)
      (get (release (changed m changes) pending).state.objects o) (c.courses o) alive in
      let held : HasHandle (changed m changes) o = held_made changes m o spare.1 dead was in
      (held.0, ap (λ hs. get hs held.0) c.handles ∙ held.1)

  -- the fields of a leaked object stay
  pub leaked_stays : (op : Operation) (b : ℕ) → get m.objects op.id ≡ None → IsLeaked m b → get (step m op).state.objects b ≡ get m.objects b
  unfolding step
  leaked_stays op b new it = stays_carried op.id (row op (view_of m op.thread op.kind)) b (plan_spared m op new) (model.soundness.rows m op sound new) it

  -- a field that holds a leaked object held it before
  pub field_came : (op : Operation) (d k i : ℕ) → get m.objects op.id ≡ None → IsLeaked m d → at (step m op).state (FieldOf k i) ≡ Some (Strong d) → at m (FieldOf k i) ≡ Some (Strong d)
  unfolding step
  field_came op d k i new it e = came_carried op.id (row op (view_of m op.thread op.kind)) d k i (plan_spared m op new) (model.soundness.rows m op sound new) it e

  -- a handle holds what is made
  pub made_held : (op : Operation) (o : ℕ) → get m.objects op.id ≡ None → is_alive (get m.objects o) ≡ false → is_alive (get (step m op).state.objects o) ≡ true
      → (h : ℕ) × (at (step m op).state (Handle h None) ≡ Some (Strong o))
  unfolding step
  made_held op o new dead alive =
      let held : HasHandle (carried_out m op.id (row op (view_of m op.thread op.kind))).state o =
      made_carried op.id (row op (view_of m op.thread op.kind)) o (plan_spared m op new) (model.soundness.rows m op sound new) dead alive in
      (held.0, ap (λ (x : Option Holding). held_at x None) held.1)
