-- What a row does can be done, and leaves a sound state.
use Rattle.std.proofs.Common.{◌≡◌, ℕ, ◌+◌, ◌<◌, ◌≤◌, List, [], ◌∷◌, refl, ap, ◌∙◌, sym, subst, arith, Bool, true, false}
use Rattle.std.specs.Prelude.{Option, Some, None, IsTrue, ◌==◌, ◌||◌, if◌then◌else◌, slice_get, slice_set, IsSome}
use Rattle.std.proofs.lemmas.Bool.Decides.{nat_tests}
use Rattle.std.proofs.lemmas.Option.{slice_get_within}
use Rattle.std.specs.Ordering.{nat_cmp}
use Rattle.std.specs.FinMap.{FinMap, get, insert, remove}
use Rattle.trace_types.specs.declared.slots.Slot.{Slot}
use Rattle.trace_types.specs.declared.slots.Slot.TheVariants.{Nothing, Strong, Weak, Dangling}
use Rattle.trace_types.specs.declared.slots.Holding.{Holding}
use Rattle.trace_types.specs.declared.slots.Holding.TheVariants as holding
use Rattle.trace_types.specs.declared.slots.Entry.{Entry}
use Rattle.trace_types.specs.declared.slots.Entry.TheVariants.{Alive, Husk}
use Rattle.trace_types.specs.declared.slots.Item.TheVariants as item
use Rattle.trace_types.specs.declared.slots.Change.{Change}
use Rattle.trace_types.specs.declared.slots.Change.TheVariants.{SetHandle, EndHandle, SetCell, EndCell, SetField, Make, TurnHusk}
use Rattle.trace_types.specs.declared.kinds.Kind.{Kind}
use Rattle.trace_types.specs.declared.kinds.Kind.TheVariants as kind
use Rattle.trace_types.specs.declared.outcomes.Answer.{Answer}
use Rattle.trace_types.specs.declared.outcomes.Answer.TheVariants as answer
use Rattle.ownership_model.specs.declared.plan.Plan.{Plan}
use Rattle.ownership_model.specs.declared.plan.Plan.TheVariants.{Skip, Act}
use Rattle.ownership_model.specs.State.{State, strong, weak, weight, holding_weight, entry_weight, slots_weight, names_alike, IsPointer, HoldPointers, AreCountsSound, IsScoped, IsSound, IsSoundAt, is_alive}
use Rattle.ownership_model.specs.Release.{drops}
use Rattle.ownership_model.specs.Changes.{changed, changed_by, CanChange, HasField, with_field}
use Rattle.ownership_model.specs.Carry.{IsCarriable}
use Rattle.ownership_model.specs.View.{Seen, held_by, named_by, named_in, seen, view_of, repeated}
use Rattle.ownership_model.specs.Step.{step, carried_out, end_from, AreNew}
use Rattle.trace_types.specs.Operation.{Operation}
use Rattle.ownership_model.proofs.DropLemmas.{sound-release}
use Rattle.ownership_model.proofs.EndingLemmas.{CountsCarriable, new_carriable}
use Rattle.ownership_model.proofs.ScopeLemmas.{changed_scoped}
use Rattle.ownership_model.proofs.ScopeEndLemmas.{scope_end_carriable}
use Rattle.ownership_model.specs.Table.{row, row_of, upgraded, unwrapped, made_unique, dropped, swapped, exchanged, set_field, take_field, copy_field, write_field, fields_of, same_pointer, make, act}
use Rattle.ownership_model.proofs.WalkLemmas as walk
use Rattle.ownership_model.proofs.MapLemmas.{get_inserted, get_removed}
use Rattle.ownership_model.proofs.CountLemmas.{total-set, total-cut, get_cut_none, get_cut_other, get_set_other, apart_of, slots_weight-set, slots_weight-get, items_weight-drops, ends-drops, held_within, cell_within, fields_within, self_strong, named_weak, named_strong, same_number, positive, shape}
use Rattle.ownership_model.proofs.GroupLemmas.{copies_sound, moves_sound, makes_sound, turns_sound, value_moves_sound}

there : {X : Type 0} (x : Option X) (y : X) → x ≡ Some y → IsSome x
there x y is = subst (λ z. IsSome z) (sym is) refl

module _ (m : State) (label : ℕ) (sound : AreCountsSound m []) (scoped : IsScoped m.handles m.scopes) where
  abbrev P : Plan → Type 0
  P p = CountsCarriable m p

  -- the slot names what is named already
  record Stands (s : Slot) : Type 0 where
    strongly : (q : ℕ) → 0 < names_alike (Strong q) s → 0 < strong m [] q
    weakly : (q : ℕ) → 0 < names_alike (Weak q) s → 0 < strong m [] q + weak m [] q

  counted_stands : (s : Slot) → ((w : Slot → ℕ) → w s ≤ weight w m []) → Stands s
  counted_stands s c = record {
    strongly = λ q p. omega (arith, c (names_alike (Strong q)), p);
    weakly = λ q p. omega (arith, c (names_alike (Weak q)), p);
  }

  held_stands : (h : ℕ) (s : Slot) → get m.handles h ≡ Some (holding.Slot s) → Stands s
  held_stands h s is = counted_stands s (λ w. held_within w m h (holding.Slot s) is)

  cell_stands : (c : ℕ) (s : Slot) → get m.cells c ≡ Some s → Stands s
  cell_stands c s is = counted_stands s (λ w. cell_within w m c s is)

  nothing_stands : Stands Nothing
  nothing_stands = record { strongly = λ q p. absurd (omega (arith, p)); weakly = λ q p. absurd (omega (arith, p)) }

  dangling_stands : Stands Dangling
  dangling_stands = record { strongly = λ q p. absurd (omega (arith, p)); weakly = λ q p. absurd (omega (arith, p)) }

  weak_stands : (o : ℕ) → 0 < strong m [] o → Stands (Weak o)
  weak_stands o some = record {
    strongly = λ q p. absurd (omega (arith, p));
    weakly = λ q p. let here : 0 < strong m [] q = subst (λ k. 0 < strong m [] k) (named_weak q o p) some in omega (arith, here);
  }

  strong_stands : (o : ℕ) → 0 < strong m [] o → Stands (Strong o)
  strong_stands o some = record {
    strongly = λ q p. subst (λ k. 0 < strong m [] k) (named_strong q o p) some;
    weakly = λ q p. absurd (omega (arith, p));
  }

  held_strong : (h o : ℕ) → get m.handles h ≡ Some (holding.Slot (Strong o)) → 0 < strong m [] o
  held_strong h o is = omega (arith, held_within (names_alike (Strong o)) m h (holding.Slot (Strong o)) is, self_strong o)

  -- a handle that is free gets a slot
  add_carriable : (to : ℕ) (s : Slot) (a : Answer) (o : Option ℕ) → get m.handles to ≡ None → Stands s → P (act a (SetHandle label to (holding.Slot s) ∷ []) [] o)
  add_carriable to s a o free c = (
    (tt, tt),
    copies_sound m (changed m (SetHandle label to (holding.Slot s) ∷ [])) [] sound (λ t. names_alike t s)
        (λ t. omega (arith, total-set (holding_weight (names_alike t)) m.handles to (holding.Slot s) None free)) c.strongly c.weakly (λ q. refl) (λ q. refl),
  )

  idle_carriable : (a : Answer) (o : Option ℕ) → P (act a [] [] o)
  idle_carriable a o = (tt, sound)

  alive_strong : (s w e : ℕ) (g : Option Entry) → IsSoundAt s w e g → is_alive g ≡ true → 0 < s
  alive_strong s w e None h is = absurd cc
  alive_strong s w e (Some (Alive fields)) h is = h.0
  alive_strong s w e (Some Husk) h is = absurd cc

  upgraded_carriable : (to o : ℕ) → get m.handles to ≡ None → P (upgraded label to (get m.objects o) (Some o))
  upgraded_carriable to o free =
      walk.at_test P (λ _. tt) (is_alive (get m.objects o)) _ _
      (λ t. add_carriable to (Strong o) answer.Yes (Some o) free (strong_stands o (alive_strong (strong m [] o) (weak m [] o) 0 (get m.objects o) (sound o) t)))
      (λ t. add_carriable to Nothing answer.No (Some o) free nothing_stands)

  dropped_carriable : (h : ℕ) (x : Holding) → get m.handles h ≡ Some x → P (dropped h x)
  dropped_carriable h (holding.Slot s) is = (
    (there _ _ is, tt),
    moves_sound m (changed m (EndHandle h ∷ [])) (item.Slot s ∷ []) sound
        (λ t. omega (arith, total-cut (holding_weight (names_alike t)) m.handles h (Some (holding.Slot s)) is)) (λ q. refl) (λ q. refl),
  )
  dropped_carriable h (holding.Bare fields) is = (
    (there _ _ is, tt),
    moves_sound m (changed m (EndHandle h ∷ [])) (drops fields []) sound
        (λ t. omega (arith, total-cut (holding_weight (names_alike t)) m.handles h (Some (holding.Bare fields)) is, items_weight-drops (names_alike t) fields [])) (λ q. ends-drops q fields []) (λ q. refl),
  )

  cell_new_carriable : (c from : ℕ) (s : Slot) → get m.handles from ≡ Some (holding.Slot s) → IsPointer s → get m.cells c ≡ None → P (act answer.Done (EndHandle from ∷ SetCell c s ∷ []) [] (named_by s))
  cell_new_carriable c from s is pointer free = (
    (there _ _ is, (pointer, tt)),
    moves_sound m (changed m (EndHandle from ∷ SetCell c s ∷ [])) [] sound
        (λ t. omega (arith, total-cut (holding_weight (names_alike t)) m.handles from (Some (holding.Slot s)) is, total-set (names_alike t) m.cells c s None free)) (λ q. refl) (λ q. refl),
  )

  -- a handle's slot goes into a cell, and the old one is dropped
  store_carriable : (c from : ℕ) (a : Answer) (old s : Slot) → get m.cells c ≡ Some old → get m.handles from ≡ Some (holding.Slot s) → IsPointer s → P (act a (EndHandle from ∷ SetCell c s ∷ []) (item.Slot old ∷ []) (named_by s))
  store_carriable c from a old s had is pointer = (
    (there _ _ is, (pointer, tt)),
    moves_sound m (changed m (EndHandle from ∷ SetCell c s ∷ [])) (item.Slot old ∷ []) sound
        (λ t. omega (arith, total-cut (holding_weight (names_alike t)) m.handles from (Some (holding.Slot s)) is, total-set (names_alike t) m.cells c s (Some old) had)) (λ q. refl) (λ q. refl),
  )

  swapped_carriable : (c from : ℕ) (to : Option ℕ) (it : Option Holding) (old s : Slot) → ((k : ℕ) → to ≡ Some k → it ≡ get m.handles k) → get m.cells c ≡ Some old → get m.handles from ≡ Some (holding.Slot s) → IsPointer s → P (swapped label c from to it old s)
  swapped_carriable c from None it old s at had is pointer = store_carriable c from answer.Done old s had is pointer
  swapped_carriable c from (Some to) it old s at had is pointer = walk.at_unheld P (λ _. tt) to it _ (λ none.
      let free : get m.handles to ≡ None = sym (at to refl) ∙ none in (
        (there _ _ is, (pointer, (tt, tt))),
        moves_sound m (changed m (EndHandle from ∷ SetCell c s ∷ SetHandle label to (holding.Slot old) ∷ [])) [] sound
            (λ t. omega (
              arith,
              total-cut (holding_weight (names_alike t)) m.handles from (Some (holding.Slot s)) is,
              total-set (names_alike t) m.cells c s (Some old) had,
              total-set (holding_weight (names_alike t)) (remove m.handles from) to (holding.Slot old) None (get_cut_none m.handles from to free),
            )) (λ q. refl) (λ q. refl),
      ))

  exchanged_carriable : (c expected desired : ℕ) (old e d : Slot) → (expected == desired) ≡ false → get m.cells c ≡ Some old → get m.handles expected ≡ Some (holding.Slot e) → get m.handles desired ≡ Some (holding.Slot d) → IsPointer d → P (exchanged label c expected desired old e d)
  exchanged_carriable c expected desired old e d apart had is is_too pointer =
      walk.at_test P (λ _. tt) (same_pointer old e) _ _
      (λ _. store_carriable c desired answer.Yes old d had is_too pointer)
      (λ _.
      let still : get (insert m.handles expected (holding.Slot old)) desired ≡ Some (holding.Slot d) = get_set_other m.handles expected (holding.Slot old) desired apart ∙ is_too in
      let c : Stands old = cell_stands c old had in (
        (tt, (there _ _ still, tt)),
        copies_sound m (changed m (SetHandle label expected (holding.Slot old) ∷ EndHandle desired ∷ [])) (item.Slot e ∷ item.Slot d ∷ []) sound (λ t. names_alike t old)
            (λ t. omega (arith, total-set (holding_weight (names_alike t)) m.handles expected (holding.Slot old) (Some (holding.Slot e)) is, total-cut (holding_weight (names_alike t)) (insert m.handles expected (holding.Slot old)) desired (Some (holding.Slot d)) still))
            c.strongly c.weakly (λ q. refl) (λ q. refl),
      ))

  cell_drop_carriable : (c : ℕ) (s : Slot) → get m.cells c ≡ Some s → P (act answer.Done (EndCell c ∷ []) (item.Slot s ∷ []) (named_by s))
  cell_drop_carriable c s is = ((there _ _ is, tt), moves_sound m (changed m (EndCell c ∷ [])) (item.Slot s ∷ []) sound (λ t. omega (arith, total-cut (names_alike t) m.cells c (Some s) is)) (λ q. refl) (λ q. refl))

  not_unwrapped_carriable : (h o : ℕ) → get m.handles h ≡ Some (holding.Slot (Strong o)) → P (act answer.No (SetHandle label h (holding.Slot Nothing) ∷ []) (item.Slot (Strong o) ∷ []) (Some o))
  not_unwrapped_carriable h o is = (
    (tt, tt),
    moves_sound m (changed m (SetHandle label h (holding.Slot Nothing) ∷ [])) (item.Slot (Strong o) ∷ []) sound
        (λ t. omega (arith, nothing_hit t, total-set (holding_weight (names_alike t)) m.handles h (holding.Slot Nothing) (Some (holding.Slot (Strong o))) is)) (λ q. refl) (λ q. refl),
  )
    where
      nothing_hit : (t : Slot) → names_alike t Nothing ≡ 0
      nothing_hit Nothing = refl
      nothing_hit (Strong o) = refl
      nothing_hit (Weak o) = refl
      nothing_hit Dangling = refl

  here : (o : ℕ) (e : Option Entry) → get m.objects o ≡ e → IsSoundAt (strong m [] o) (weak m [] o) 0 e
  here o e is = subst (λ (x : Option Entry). IsSoundAt (strong m [] o) (weak m [] o) 0 x) is (sound o)

  is_alive_at : (o : ℕ) (fields : List Slot) → get m.objects o ≡ Some (Alive fields) → IsTrue (is_alive (get m.objects o))
  is_alive_at o fields is = ap is_alive is

  unwrapped_carriable : (h o : ℕ) (e : Option Entry) → get m.objects o ≡ e → get m.handles h ≡ Some (holding.Slot (Strong o)) → strong m [] o ≡ 1 → P (unwrapped label h o (fields_of e))
  unwrapped_carriable h o None is hold one = absurd (let a : IsSoundAt (strong m [] o) (weak m [] o) 0 None = here o None is in omega (arith, a.0, one))
  unwrapped_carriable h o (Some Husk) is hold one = absurd (let a : IsSoundAt (strong m [] o) (weak m [] o) 0 (Some Husk) = here o (Some Husk) is in omega (arith, a.0, one))
  unwrapped_carriable h o (Some (Alive fields)) is hold one = (
    (is_alive_at o fields is, (tt, tt)),
    turns_sound m (changed m (TurnHusk o ∷ SetHandle label h (holding.Bare fields) ∷ [])) (item.End o ∷ []) sound o one
        (λ t. omega (arith, total-set (entry_weight (names_alike t)) m.objects o Husk (Some (Alive fields)) is, total-set (holding_weight (names_alike t)) m.handles h (holding.Bare fields) (Some (holding.Slot (Strong o))) hold))
        (λ q. omega arith) (λ q. get_inserted m.objects o Husk q),
  )

  made_shape : (id q : ℕ) (fields : List Slot) (x : Option Entry) (b : Bool) → shape (if b then Some (Alive fields) else x) ≡ (if b then 1 else shape x)
  made_shape id q fields x true = refl
  made_shape id q fields x false = refl

  shape_made : (id : ℕ) (fields : List Slot) (q : ℕ) → shape (get (insert m.objects id (Alive fields)) q) ≡ (if id == q then 1 else shape (get m.objects q))
  shape_made id fields q = ap shape (get_inserted m.objects id (Alive fields) q) ∙ made_shape id q fields (get m.objects q) (id == q)

  unique_carriable : (id h o : ℕ) (e : Option Entry) → get m.objects id ≡ None → get m.objects o ≡ e → get m.handles h ≡ Some (holding.Slot (Strong o)) → P (made_unique label id h o (record { entry = e; strong = strong m [] o; weak = weak m [] o }))
  unique_carriable id h o None new is hold = absurd (let a : IsSoundAt (strong m [] o) (weak m [] o) 0 None = here o None is in omega (arith, a.0, held_strong h o hold))
  unique_carriable id h o (Some Husk) new is hold = absurd (let a : IsSoundAt (strong m [] o) (weak m [] o) 0 (Some Husk) = here o (Some Husk) is in omega (arith, a.0, held_strong h o hold))
  unique_carriable id h o (Some (Alive fields)) new is hold =
      let apart : (o == id) ≡ false = apart_of m.objects o id (Alive fields) is new in
      walk.at_test P (λ _. tt) (strong m [] o == 1) _ _
      (λ one. walk.at_test P (λ _. tt) (weak m [] o == 0) _ _
      (λ _. idle_carriable answer.Unique (Some o))
      (λ some.
      let free : get (insert m.objects o Husk) id ≡ None = get_set_other m.objects o Husk id apart ∙ new in (
        (is_alive_at o fields is, (free, (tt, tt))),
        value_moves_sound m (changed m (TurnHusk o ∷ make label id fields h)) [] sound o id fields apart (same_number (strong m [] o) 1 one) (positive (weak m [] o) some)
            (λ t. omega (
              arith,
              total-set (entry_weight (names_alike t)) m.objects o Husk (Some (Alive fields)) is,
              total-set (entry_weight (names_alike t)) (insert m.objects o Husk) id (Alive fields) None free,
              total-set (holding_weight (names_alike t)) m.handles h (holding.Slot (Strong id)) (Some (holding.Slot (Strong o))) hold,
            ))
            (λ q. refl)
            (λ q. get_inserted (insert m.objects o Husk) id (Alive fields) q ∙ ap (λ x. if id == q then Some (Alive fields) else x) (get_inserted m.objects o Husk q)),
      )))
      (λ _. (
        (new, (tt, tt)),
        makes_sound m (changed m (make label id fields h)) (item.Slot (Strong o) ∷ []) sound id (λ t. slots_weight (names_alike t) fields)
            (λ t. omega (arith, total-set (entry_weight (names_alike t)) m.objects id (Alive fields) None new, total-set (holding_weight (names_alike t)) m.handles h (holding.Slot (Strong id)) (Some (holding.Slot (Strong o))) hold))
            (λ q _ p. omega (arith, p, fields_within (names_alike (Strong q)) m o fields is)) (λ q _ p. omega (arith, p, fields_within (names_alike (Weak q)) m o fields is)) (λ q. refl) (shape_made id fields),
      ))

  new_from_carriable : (id from to : ℕ) (fields : List Slot) → get m.objects id ≡ None → get m.handles from ≡ Some (holding.Bare fields) → get m.handles to ≡ None → P (act answer.Made (EndHandle from ∷ make label id fields to) [] (Some id))
  new_from_carriable id from to fields new is free = (
    (there _ _ is, (new, (tt, tt))),
    makes_sound m (changed m (EndHandle from ∷ make label id fields to)) [] sound id (λ _. 0)
        (λ t. omega (
          arith,
          total-cut (holding_weight (names_alike t)) m.handles from (Some (holding.Bare fields)) is,
          total-set (entry_weight (names_alike t)) m.objects id (Alive fields) None new,
          total-set (holding_weight (names_alike t)) (remove m.handles from) to (holding.Slot (Strong id)) None (get_cut_none m.handles from to free),
        ))
        (λ q _ p. absurd (omega (arith, p))) (λ q _ p. absurd (omega (arith, p))) (λ q. refl) (shape_made id fields),
  )

  -- ---- fields
  nothing_hits : (t : Slot) → names_alike t Nothing ≡ 0
  nothing_hits Nothing = refl
  nothing_hits (Strong o) = refl
  nothing_hits (Weak o) = refl
  nothing_hits Dangling = refl

  has_field : (o : ℕ) (fields : List Slot) (i : ℕ) (s : Slot) → get m.objects o ≡ Some (Alive fields) → slice_get fields i ≡ Some s → HasField (get m.objects o) i
  has_field o fields i s is got = subst (λ (x : Option Entry). HasField x i) (sym is) (slice_get_within fields i s got)

  shape_same : (b : Bool) (e : Entry) (x : Option Entry) → (b ≡ true → shape x ≡ shape (Some e)) → shape (if b then Some e else x) ≡ shape x
  shape_same true e x p = sym (p refl)
  shape_same false e x p = refl

  shape_set : (o : ℕ) (fields : List Slot) (i : ℕ) (s : Slot) → get m.objects o ≡ Some (Alive fields) → (q : ℕ) → shape (get (insert m.objects o (with_field (get m.objects o) i s)) q) ≡ shape (get m.objects q)
  shape_set o fields i s is q =
      let one : shape (Some (with_field (get m.objects o) i s)) ≡ 1 = ap (λ x. shape (Some (with_field x i s))) is in
      let two : shape (get m.objects o) ≡ 1 = ap shape is in
      ap shape (get_inserted m.objects o (with_field (get m.objects o) i s) q)
      ∙ shape_same (o == q) (with_field (get m.objects o) i s) (get m.objects q) (λ t. subst (λ k. shape (get m.objects k) ≡ shape (Some (with_field (get m.objects o) i s))) (same_number o q t) (two ∙ sym one))

  -- what the object's fields weigh with one of them set
  object_set : (w : Slot → ℕ) (o : ℕ) (fields : List Slot) (i : ℕ) (old s : Slot) → get m.objects o ≡ Some (Alive fields) → slice_get fields i ≡ Some old
      → weight w (record m { objects = insert m.objects o (with_field (get m.objects o) i s) }) [] + w old ≡ weight w m [] + w s
  object_set w o fields i old s is got =
      let new : entry_weight w (with_field (get m.objects o) i s) ≡ slots_weight w (slice_set fields i s) = ap (λ x. entry_weight w (with_field x i s)) is in
      omega (arith, total-set (entry_weight w) m.objects o (with_field (get m.objects o) i s) (Some (Alive fields)) is, new, slots_weight-set w fields i old s got)

  set_object_carriable : (h i from o : ℕ) (s old : Slot) (e : Option Entry) → get m.objects o ≡ e → get m.handles from ≡ Some (holding.Slot s) → slice_get (fields_of e) i ≡ Some old
      → P (act answer.Done (EndHandle from ∷ write_field label h (Some o) (fields_of e) i s ∷ []) (item.Slot old ∷ []) (Some o))
  set_object_carriable h i from o s old None at is got = absurd cc
  set_object_carriable h i from o s old (Some Husk) at is got = absurd cc
  set_object_carriable h i from o s old (Some (Alive fields)) at is got = (
    (there _ _ is, (has_field o fields i old at got, tt)),
    moves_sound m (changed m (EndHandle from ∷ SetField o i s ∷ [])) (item.Slot old ∷ []) sound
        (λ t. omega (arith, total-cut (holding_weight (names_alike t)) m.handles from (Some (holding.Slot s)) is, object_set (names_alike t) o fields i old s at got)) (λ q. refl) (shape_set o fields i s at),
  )

  apart_slot : (from h : ℕ) (s : Slot) (fields : List Slot) → get m.handles from ≡ Some (holding.Slot s) → get m.handles h ≡ Some (holding.Bare fields) → (from == h) ≡ false
  apart_slot from h s fields is bare = elim (from == h) as (λ b. (from == h) ≡ b → (from == h) ≡ false) [
    | true ↦ λ t. let same : get m.handles from ≡ get m.handles h = ap (get m.handles) (same_number from h t) in absurd cc
    | false ↦ λ f. f
  ] refl

  turned_apart : (a b : ℕ) → (a == b) ≡ false → (b == a) ≡ false
  turned_apart a b f = grind (arith, nat_tests, f)

  set_bare_carriable : (h i from : ℕ) (s old : Slot) (fields : List Slot) → get m.handles h ≡ Some (holding.Bare fields) → get m.handles from ≡ Some (holding.Slot s) → slice_get fields i ≡ Some old
      → P (act answer.Done (EndHandle from ∷ write_field label h None fields i s ∷ []) (item.Slot old ∷ []) None)
  set_bare_carriable h i from s old fields bare is got =
      let still : get (remove m.handles from) h ≡ Some (holding.Bare fields) = get_cut_other m.handles from h (apart_slot from h s fields is bare) ∙ bare in (
        (there _ _ is, (tt, tt)),
        moves_sound m (changed m (EndHandle from ∷ SetHandle label h (holding.Bare (slice_set fields i s)) ∷ [])) (item.Slot old ∷ []) sound
            (λ t. omega (arith, total-cut (holding_weight (names_alike t)) m.handles from (Some (holding.Slot s)) is, total-set (holding_weight (names_alike t)) (remove m.handles from) h (holding.Bare (slice_set fields i s)) (Some (holding.Bare fields)) still, slots_weight-set (names_alike t) fields i old s got)) (λ q. refl) (λ q. refl),
      )

  take_object_carriable : (h i to o : ℕ) (s : Slot) (e : Option Entry) → get m.objects o ≡ e → get m.handles to ≡ None → slice_get (fields_of e) i ≡ Some s
      → P (act answer.Done (SetHandle label to (holding.Slot s) ∷ write_field label h (Some o) (fields_of e) i Nothing ∷ []) [] (Some o))
  take_object_carriable h i to o s None at free got = absurd cc
  take_object_carriable h i to o s (Some Husk) at free got = absurd cc
  take_object_carriable h i to o s (Some (Alive fields)) at free got = (
    (tt, (has_field o fields i s at got, tt)),
    moves_sound m (changed m (SetHandle label to (holding.Slot s) ∷ SetField o i Nothing ∷ [])) [] sound
        (λ t. omega (arith, total-set (holding_weight (names_alike t)) m.handles to (holding.Slot s) None free, object_set (names_alike t) o fields i s Nothing at got, nothing_hits t)) (λ q. refl) (shape_set o fields i Nothing at),
  )

  take_bare_carriable : (h i to : ℕ) (s : Slot) (fields : List Slot) → get m.handles h ≡ Some (holding.Bare fields) → get m.handles to ≡ None → slice_get fields i ≡ Some s
      → P (act answer.Done (SetHandle label to (holding.Slot s) ∷ write_field label h None fields i Nothing ∷ []) [] None)
  take_bare_carriable h i to s fields bare free got =
      let still : get (insert m.handles to (holding.Slot s)) h ≡ Some (holding.Bare fields) = get_set_other m.handles to (holding.Slot s) h (turned_apart h to (apart_of m.handles h to (holding.Bare fields) bare free)) ∙ bare in (
        (tt, (tt, tt)),
        moves_sound m (changed m (SetHandle label to (holding.Slot s) ∷ SetHandle label h (holding.Bare (slice_set fields i Nothing)) ∷ [])) [] sound
            (λ t. omega (arith, total-set (holding_weight (names_alike t)) m.handles to (holding.Slot s) None free, total-set (holding_weight (names_alike t)) (insert m.handles to (holding.Slot s)) h (holding.Bare (slice_set fields i Nothing)) (Some (holding.Bare fields)) still, slots_weight-set (names_alike t) fields i s Nothing got, nothing_hits t)) (λ q. refl) (λ q. refl),
      )

  get_object_carriable : (i to o : ℕ) (s : Slot) (e : Option Entry) → get m.objects o ≡ e → get m.handles to ≡ None → slice_get (fields_of e) i ≡ Some s → P (act answer.Done (SetHandle label to (holding.Slot s) ∷ []) [] (Some o))
  get_object_carriable i to o s None at free got = absurd cc
  get_object_carriable i to o s (Some Husk) at free got = absurd cc
  get_object_carriable i to o s (Some (Alive fields)) at free got = add_carriable to s answer.Done (Some o) free
      (counted_stands s (λ w. omega (arith, slots_weight-get w fields i s got, fields_within w m o fields at)))

  get_bare_carriable : (h i to : ℕ) (s : Slot) (fields : List Slot) → get m.handles h ≡ Some (holding.Bare fields) → get m.handles to ≡ None → slice_get fields i ≡ Some s → P (act answer.Done (SetHandle label to (holding.Slot s) ∷ []) [] None)
  get_bare_carriable h i to s fields bare free got = add_carriable to s answer.Done None free
      (counted_stands s (λ w. omega (arith, slots_weight-get w fields i s got, held_within w m h (holding.Bare fields) bare)))

  -- ---- the rows
  seen_is : (h o : ℕ) (x : Holding) → get m.handles h ≡ Some x → x ≡ holding.Slot (Strong o) → seen m (named_in (get m.handles h)) ≡ seen m (Some o)
  seen_is h o x is was = ap (λ y. seen m (named_in y)) (is ∙ ap Some was)

  seen_weak : (h o : ℕ) (x : Holding) → get m.handles h ≡ Some x → x ≡ holding.Slot (Weak o) → seen m (named_in (get m.handles h)) ≡ seen m (Some o)
  seen_weak h o x is was = ap (λ y. seen m (named_in y)) (is ∙ ap Some was)

  cas_apart : (expected desired : ℕ) → repeated (kind.CellCas 0 expected desired) ≡ None → (expected == desired) ≡ false
  cas_apart expected desired e = test (expected == desired) e
    where
      test : (b : Bool) → (if b || false then Some desired else None) ≡ None → b ≡ false
      test true e = absurd cc
      test false e = refl

  set_field_carriable : (h i from : ℕ) (y : Holding) (owner : Option ℕ) (fields : List Slot) → get m.handles from ≡ Some y
      → ((s old : Slot) → get m.handles from ≡ Some (holding.Slot s) → slice_get fields i ≡ Some old → P (act answer.Done (EndHandle from ∷ write_field label h owner fields i s ∷ []) (item.Slot old ∷ []) owner)) → P (set_field label h i from y owner fields)
  set_field_carriable h i from y owner fields is f =
      walk.at_slot P (λ _. tt) from y _ (λ s was. walk.at_field P (λ _. tt) i (slice_get fields i) _ (λ old got. f s old (is ∙ ap Some was) got))

  take_field_carriable : (h i to : ℕ) (owner : Option ℕ) (fields : List Slot)
      → ((s : Slot) → get m.handles to ≡ None → slice_get fields i ≡ Some s → P (act answer.Done (SetHandle label to (holding.Slot s) ∷ write_field label h owner fields i Nothing ∷ []) [] owner)) → P (take_field label h i to (get m.handles to) owner fields)
  take_field_carriable h i to owner fields f =
      walk.at_field P (λ _. tt) i (slice_get fields i) _ (λ s got. walk.at_unheld P (λ _. tt) to (get m.handles to) _ (λ free. f s free got))

  copy_field_carriable : (i to : ℕ) (owner : Option ℕ) (fields : List Slot)
      → ((s : Slot) → get m.handles to ≡ None → slice_get fields i ≡ Some s → P (act answer.Done (SetHandle label to (holding.Slot s) ∷ []) [] owner)) → P (copy_field label i to (get m.handles to) owner fields)
  copy_field_carriable i to owner fields f =
      walk.at_field P (λ _. tt) i (slice_get fields i) _ (λ s got. walk.at_unheld P (λ _. tt) to (get m.handles to) _ (λ free. f s free got))

  at_to : (to : Option ℕ) (k : ℕ) → to ≡ Some k → held_by m to ≡ get m.handles k
  at_to to k e = ap (held_by m) e

  pub row_of_carriable : (id : ℕ) (k : Kind) → get m.objects id ≡ None → repeated k ≡ None → P (row_of label id k (view_of m label k))
  row_of_carriable id (kind.New to fields) new apart = new_carriable m label id to fields sound new apart
  row_of_carriable id (kind.NewCyclic to fields) new apart = new_carriable m label id to fields sound new apart
  row_of_carriable id (kind.NewFrom from to) new apart =
      walk.at_held P (λ _. tt) from (get m.handles from) _ (λ x is. walk.at_bare P (λ _. tt) from x _ (λ fields was. walk.at_unheld P (λ _. tt) to (get m.handles to) _ (λ free.
      new_from_carriable id from to fields new (is ∙ ap Some was) free)))
  row_of_carriable id (kind.WeakNew to) new apart = walk.at_unheld P (λ _. tt) to (get m.handles to) _ (λ free. add_carriable to Dangling answer.Done None free dangling_stands)
  row_of_carriable id (kind.Null to) new apart = walk.at_unheld P (λ _. tt) to (get m.handles to) _ (λ free. add_carriable to Nothing answer.Done None free nothing_stands)
  row_of_carriable id (kind.Clone from to) new apart =
      walk.at_held P (λ _. tt) from (get m.handles from) _ (λ x is. walk.at_slot P (λ _. tt) from x _ (λ s was. walk.at_unheld P (λ _. tt) to (get m.handles to) _ (λ free.
      add_carriable to s answer.Done (named_by s) free (held_stands from s (is ∙ ap Some was)))))
  row_of_carriable id (kind.Drop h) new apart = walk.at_held P (λ _. tt) h (get m.handles h) _ (λ x is. dropped_carriable h x is)
  row_of_carriable id (kind.Downgrade from to) new apart =
      walk.at_held P (λ _. tt) from (get m.handles from) _ (λ x is. walk.at_strong P (λ _. tt) from x _ (λ o was. walk.at_unheld P (λ _. tt) to (get m.handles to) _ (λ free.
      add_carriable to (Weak o) answer.Done (Some o) free (weak_stands o (held_strong from o (is ∙ ap Some was))))))
  row_of_carriable id (kind.Upgrade from to) new apart =
      walk.at_held P (λ _. tt) from (get m.handles from) _ (λ x is. walk.at_weak P (λ _. tt) from x _
      (λ o was. walk.at_unheld P (λ _. tt) to (get m.handles to) _ (λ free.
      subst (λ (it : Seen). P (upgraded label to it.entry (Some o))) (sym (seen_weak from o x is was)) (upgraded_carriable to o free)))
      (walk.at_unheld P (λ _. tt) to (get m.handles to) _ (λ free. add_carriable to Nothing answer.No None free nothing_stands)))
  row_of_carriable id (kind.TryUnwrap h) new apart =
      walk.at_held P (λ _. tt) h (get m.handles h) _ (λ x is. walk.at_strong P (λ _. tt) h x _ (λ o was.
      subst (λ (it : Seen). P (if it.strong == 1 then unwrapped label h o (fields_of it.entry) else act answer.No [] [] (Some o))) (sym (seen_is h o x is was))
      (walk.at_test P (λ _. tt) (strong m [] o == 1) _ _ (λ one. unwrapped_carriable h o (get m.objects o) refl (is ∙ ap Some was) (same_number (strong m [] o) 1 one)) (λ _. idle_carriable answer.No (Some o)))))
  row_of_carriable id (kind.IntoInner h) new apart =
      walk.at_held P (λ _. tt) h (get m.handles h) _ (λ x is. walk.at_strong P (λ _. tt) h x _ (λ o was.
      subst (λ (it : Seen). P (if it.strong == 1 then unwrapped label h o (fields_of it.entry) else act answer.No (SetHandle label h (holding.Slot Nothing) ∷ []) (item.Slot (Strong o) ∷ []) (Some o))) (sym (seen_is h o x is was))
      (walk.at_test P (λ _. tt) (strong m [] o == 1) _ _ (λ one. unwrapped_carriable h o (get m.objects o) refl (is ∙ ap Some was) (same_number (strong m [] o) 1 one)) (λ _. not_unwrapped_carriable h o (is ∙ ap Some was)))))
  row_of_carriable id (kind.GetMut h) new apart =
      walk.at_held P (λ _. tt) h (get m.handles h) _ (λ x is. walk.at_strong P (λ _. tt) h x _ (λ o was. (tt, sound)))
  row_of_carriable id (kind.MakeMut h) new apart =
      walk.at_held P (λ _. tt) h (get m.handles h) _ (λ x is. walk.at_strong P (λ _. tt) h x _ (λ o was.
      subst (λ (it : Seen). P (made_unique label id h o it)) (sym (seen_is h o x is was)) (unique_carriable id h o (get m.objects o) new refl (is ∙ ap Some was))))
  row_of_carriable id (kind.Counts h) new apart =
      walk.at_held P (λ _. tt) h (get m.handles h) _ (λ x is. walk.at_counted P (λ _. tt) h x _ (λ o was. idle_carriable answer.Done (Some o)) (λ o was. idle_carriable answer.Done (Some o)) (idle_carriable answer.Done None))
  row_of_carriable id (kind.PtrEq a b) new apart =
      walk.at_held P (λ _. tt) a (get m.handles a) _ (λ x is. walk.at_held P (λ _. tt) b (get m.handles b) _ (λ y is_too. walk.at_strong P (λ _. tt) a x _ (λ o was. walk.at_strong P (λ _. tt) b y _ (λ p _. (tt, sound)))))
  row_of_carriable id (kind.Set h i from) new apart =
      walk.at_held P (λ _. tt) h (get m.handles h) _ (λ x is. walk.at_held P (λ _. tt) from (get m.handles from) _ (λ y is_too. walk.at_fields P (λ _. tt) h x _ _
      (λ o was. subst (λ (it : Seen). P (set_field label h i from y (Some o) (fields_of it.entry))) (sym (seen_is h o x is was))
      (set_field_carriable h i from y (Some o) (fields_of (get m.objects o)) is_too (λ s old slot got. set_object_carriable h i from o s old (get m.objects o) refl slot got)))
      (λ fields was. set_field_carriable h i from y None fields is_too (λ s old slot got. set_bare_carriable h i from s old fields (is ∙ ap Some was) slot got))))
  row_of_carriable id (kind.Take h i to) new apart =
      walk.at_held P (λ _. tt) h (get m.handles h) _ (λ x is. walk.at_fields P (λ _. tt) h x _ _
      (λ o was. subst (λ (it : Seen). P (take_field label h i to (get m.handles to) (Some o) (fields_of it.entry))) (sym (seen_is h o x is was))
      (take_field_carriable h i to (Some o) (fields_of (get m.objects o)) (λ s free got. take_object_carriable h i to o s (get m.objects o) refl free got)))
      (λ fields was. take_field_carriable h i to None fields (λ s free got. take_bare_carriable h i to s fields (is ∙ ap Some was) free got)))
  row_of_carriable id (kind.Get h i to) new apart =
      walk.at_held P (λ _. tt) h (get m.handles h) _ (λ x is. walk.at_fields P (λ _. tt) h x _ _
      (λ o was. subst (λ (it : Seen). P (copy_field label i to (get m.handles to) (Some o) (fields_of it.entry))) (sym (seen_is h o x is was))
      (copy_field_carriable i to (Some o) (fields_of (get m.objects o)) (λ s free got. get_object_carriable i to o s (get m.objects o) refl free got)))
      (λ fields was. copy_field_carriable i to None fields (λ s free got. get_bare_carriable h i to s fields (is ∙ ap Some was) free got)))
  row_of_carriable id (kind.CellNew c from) new apart =
      walk.at_held P (λ _. tt) from (get m.handles from) _ (λ x is. walk.at_pointer P (λ _. tt) from x _ (λ s was pointer. walk.at_absent_cell P (λ _. tt) c (get m.cells c) _ (λ free.
      cell_new_carriable c from s (is ∙ ap Some was) pointer free)))
  row_of_carriable id (kind.CellLoad c to) new apart =
      walk.at_cell P (λ _. tt) c (get m.cells c) _ (λ s is. walk.at_unheld P (λ _. tt) to (get m.handles to) _ (λ free. add_carriable to s answer.Done (named_by s) free (cell_stands c s is)))
  row_of_carriable id (kind.CellSwap c from to) new apart =
      walk.at_cell P (λ _. tt) c (get m.cells c) _ (λ old had. walk.at_held P (λ _. tt) from (get m.handles from) _ (λ x is. walk.at_pointer P (λ _. tt) from x _ (λ s was pointer.
      swapped_carriable c from to (held_by m to) old s (at_to to) had (is ∙ ap Some was) pointer)))
  row_of_carriable id (kind.CellCas c expected desired) new apart =
      walk.at_cell P (λ _. tt) c (get m.cells c) _ (λ old had. walk.at_held P (λ _. tt) expected (get m.handles expected) _ (λ x is. walk.at_held P (λ _. tt) desired (get m.handles desired) _ (λ y is_too.
      walk.at_pointer P (λ _. tt) expected x _ (λ e was _. walk.at_pointer P (λ _. tt) desired y _ (λ d was_too pointer.
      exchanged_carriable c expected desired old e d (cas_apart expected desired apart) had (is ∙ ap Some was) (is_too ∙ ap Some was_too) pointer)))))
  row_of_carriable id (kind.CellDrop c) new apart = walk.at_cell P (λ _. tt) c (get m.cells c) _ (λ s is. cell_drop_carriable c s is)
  row_of_carriable id kind.ScopeEnd new apart = scope_end_carriable m label sound scoped

some_same : (a b : Slot) → Some a ≡ Some b → a ≡ b
some_same a b e = cc

-- any changes that can be made leave pointers in the cells
put_pointer : (cells : FinMap nat_cmp Slot) (k : ℕ) (x : Slot) → IsPointer x → HoldPointers cells → HoldPointers (insert cells k x)
put_pointer cells k x pointer hold c s is =
    elim (k == c) as (λ b. (if b then Some x else get cells c) ≡ Some s → IsPointer s) [
      | true ↦ λ e. subst IsPointer (some_same x s e) pointer
      | false ↦ λ e. hold c s e
    ] (sym (get_inserted cells k x c) ∙ is)

cut_pointer : (cells : FinMap nat_cmp Slot) (k : ℕ) → HoldPointers cells → HoldPointers (remove cells k)
cut_pointer cells k hold c s is =
    elim (k == c) as (λ b. (if b then None else get cells c) ≡ Some s → IsPointer s) [
      | true ↦ λ e. absurd cc
      | false ↦ λ e. hold c s e
    ] (sym (get_removed cells k c) ∙ is)

pub changed_pointers : (cs : List Change) (m : State) → CanChange m cs → HoldPointers m.cells → HoldPointers (changed m cs).cells
changed_pointers [] m can hold = hold
changed_pointers (SetHandle t h x ∷ cs) m can hold = changed_pointers cs (changed_by m (SetHandle t h x)) can.1 hold
changed_pointers (EndHandle h ∷ cs) m can hold = changed_pointers cs (changed_by m (EndHandle h)) can.1 hold
changed_pointers (SetCell c s ∷ cs) m can hold = changed_pointers cs (changed_by m (SetCell c s)) can.1 (put_pointer m.cells c s can.0 hold)
changed_pointers (EndCell c ∷ cs) m can hold = changed_pointers cs (changed_by m (EndCell c)) can.1 (cut_pointer m.cells c hold)
changed_pointers (SetField o i s ∷ cs) m can hold = changed_pointers cs (changed_by m (SetField o i s)) can.1 hold
changed_pointers (Make o fields ∷ cs) m can hold = changed_pointers cs (changed_by m (Make o fields)) can.1 hold
changed_pointers (TurnHusk o ∷ cs) m can hold = changed_pointers cs (changed_by m (TurnHusk o)) can.1 hold

carriable : (m : State) (p : Plan) → HoldPointers m.cells → IsScoped m.handles m.scopes → CountsCarriable m p → IsCarriable m p
carriable m (Skip why) hold scoped c = tt
carriable m (Act answer changes event pending object) hold scoped c =
    (c.0, record { counts = c.1; cells = changed_pointers changes m c.0 hold; scopes = changed_scoped changes m scoped })

-- each row can be carried out
pub row_carriable : (m : State) (op : Operation) → IsSound m [] → get m.objects op.id ≡ None → IsCarriable m (row op (view_of m op.thread op.kind))
row_carriable m op sound new =
    carriable m (row op (view_of m op.thread op.kind)) sound.cells sound.scopes
    (walk.at_repeated (CountsCarriable m) (λ _. tt) (repeated op.kind) _ (λ apart. row_of_carriable m op.thread sound.counts sound.scopes op.id op.kind new apart))

carried_sound : (m : State) (id : ℕ) (p : Plan) → IsSound m [] → IsCarriable m p → IsSound (carried_out m id p).state []
carried_sound m id (Skip why) sound c = sound
carried_sound m id (Act answer changes event pending object) sound c = sound-release (changed m changes) pending c.1

pub step_sound : (m : State) (op : Operation) → IsSound m [] → get m.objects op.id ≡ None → IsSound (step m op).state []
unfolding step
step_sound m op sound new = carried_sound m op.id (row op (view_of m op.thread op.kind)) sound (row_carriable m op sound new)

pub end_sound : (ops : List Operation) (m : State) → IsSound m [] → AreNew m ops → IsSound (end_from m ops) []
end_sound [] m sound new = sound
end_sound (op ∷ ops) m sound new = end_sound ops (step m op).state (step_sound m op sound new.0) new.1
