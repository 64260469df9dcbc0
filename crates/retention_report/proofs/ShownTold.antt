-- Which objects are shown, leaked, given and in one cycle: what the marks of a graph say of the state.
use Rattle.std.proofs.Common.{◌≡◌, ℕ, ◌+◌, ◌<◌, ◌≤◌, ◌⊎◌, inl, inr, List, [], ◌∷◌, ◌++◌, length, get_or, refl, sym, ap, ◌∙◌, subst, arith, Bool, true, false}
use Rattle.std.specs.Prelude.{Option, Some, None, ◌==◌, ◌||◌, ◌↔◌, not, is_some}
use Rattle.std.specs.Ordering.{nat_cmp}
use Rattle.std.specs.FinMap.{FinMap, get, keys, contains_key-keys}
use Rattle.ownership_model.proofs.Searching.{has_as_any}
use Rattle.trace_types.specs.Slots.{named_by}
use Rattle.trace_types.specs.declared.slots.Slot.{Slot}
use Rattle.trace_types.specs.declared.slots.Slot.TheVariants.{Nothing, Strong, Weak, Dangling}
use Rattle.trace_types.specs.declared.slots.Entry.{Entry}
use Rattle.trace_types.specs.declared.slots.Entry.TheVariants.{Alive, Husk}
use Rattle.ownership_model.specs.State.{State, is_alive}
use Rattle.ownership_model.specs.Release.{is_husk}
use Rattle.ownership_model.specs.Leaks.{IsLeaked}
use Rattle.ownership_model.specs.Reach.{has}
use Rattle.retention_model.specs.declared.place.Place.{Place}
use Rattle.retention_model.specs.declared.place.Place.TheVariants.{Handle, Cell, Field}
use Rattle.retention_model.specs.declared.place.Held.{Held}
use Rattle.retention_model.specs.Places.{at, IsFieldOf, places_of}
use Rattle.retention_model.specs.Ways.{LeadsTo, IsWay}
use Rattle.retention_model.specs.Cycles as state
use Rattle.retention_model.specs.Shown.{IsOfInterest, HoldsWeakly, IsNear, IsShown}
use Rattle.retention.specs.declared.graph.Graph.{Graph}
use Rattle.retention.specs.Graph.{size, places, object_at, alive_at, held_at, IsFieldAt, start_at, IsGraphOf}
use Rattle.retention.specs.HeldPlaces.{held_among}
use Rattle.retention.specs.Paths.{marked}
use Rattle.retention.specs.Pictured.{is_weak_slot, IsAskedAt, HoldsWeaklyAt, IsNearAt, IsShownAt}
use Rattle.retention.proofs.WalkSteps.{number_same, same_number}
use Rattle.retention.proofs.PathLemmas.{has_at}
use Rattle.retention.proofs.GraphPaths.{field_object}
use Rattle.retention.proofs.HeldLemmas.{all_stand, listed, field_key}
use Rattle.retention.proofs.GraphLaws.{place_at, tells, object_index, keeps_told, same_index}
use Rattle.retention_report.specs.Drawn as drawn_by
use Rattle.retention_report.specs.Drawn.{index_in, indices_in}
use Rattle.retention_report.proofs.DrawLemmas.{index_found, index_at}

husk_entry : (x : Option Entry) → is_some x ≡ true → is_alive x ≡ false → is_husk x ≡ true
husk_entry None s a = absurd cc
husk_entry (Some (Alive fields)) s a = absurd cc
husk_entry (Some Husk) s a = refl

pub husk_there : (x : Option Entry) → is_husk x ≡ true → is_some x ≡ true
husk_there None h = absurd cc
husk_there (Some x) h = refl

pub husk_dead : (x : Option Entry) → is_husk x ≡ true → is_alive x ≡ false
husk_dead None h = absurd cc
husk_dead (Some (Alive fields)) h = absurd cc
husk_dead (Some Husk) h = refl

pub husk_not : (x : Option Entry) → is_some x ≡ true → is_husk x ≡ not (is_alive x)
husk_not None s = absurd cc
husk_not (Some (Alive fields)) s = refl
husk_not (Some Husk) s = refl

pub there_key : {X : Type 0} (m : FinMap nat_cmp X) (o : ℕ) → has o (keys m) ≡ is_some (get m o)
there_key m o = sym (has_as_any o (keys m)) ∙ sym (contains_key-keys m o)

-- an object of the state, by its number in the graph
module _ (m : State) (since : Place → ℕ) (g : Graph) (is : IsGraphOf m since g) where
  pub there : (i : ℕ) → i < size g → is_some (get m.objects (object_at g i)) ≡ true
  there i h = sym (there_key m.objects (object_at g i)) ∙ ap (λ os. has (object_at g i) os) (sym is.objects) ∙ has_at g.objects.items i h

  pub index_of_key : (o : ℕ) → has o (keys m.objects) ≡ true → (i : ℕ) × (i < size g) × (object_at g i ≡ o) × (index_in g.objects.items o ≡ Some i)
  index_of_key o h = let it = object_index m since g is o h in (it.0, it.1, it.2, ap (index_in g.objects.items) (sym it.2) ∙ index_at g it.0 it.1)

  -- A Weak in a field.

  within_places : (i p : ℕ) → i < size g → IsFieldAt g i p → p < places g
  within_places i p h f = let w : start_at g (i + 1) ≤ places g = g.laid.are_starts.within (i + 1) (omega (arith, h)) in let b : p < start_at g (i + 1) = f.1 in omega (arith, w, b)

  place_number : (q : Place) (s : Slot) (o : ℕ) → at m q ≡ Some s → named_by s ≡ Some o → (p : ℕ) × (p < places g) × (place_at g p ≡ q)
  place_number q s o e n =
      let it = listed m since (places_of m) q s o (all_stand m number_same q s e) e n in
      let same : held_among m since (places_of m) ≡ g.held.items = sym is.held in
      (it.0, subst (λ (hs : List Held). it.0 < length hs) same it.1, subst (λ (hs : List Held). (get_or hs it.0 (record { place = Cell 0; slot = Nothing; since = 0 })).place ≡ q) same (it.2 (record { place = Cell 0; slot = Nothing; since = 0 })))

  weak_of : (s : Slot) (q : Place) (o : ℕ) → is_weak_slot s ≡ true → at m q ≡ Some s → ((r : ℕ) → named_by s ≡ Some r → r ≡ o) → at m q ≡ Some (Weak o)
  weak_of Nothing q o w e same = absurd cc
  weak_of (Strong r) q o w e same = absurd cc
  weak_of (Weak r) q o w e same = e ∙ ap (λ k. Some (Weak k)) (same r refl)
  weak_of Dangling q o w e same = absurd cc

  field_index : (q : Place) (p o : ℕ) → IsFieldOf p q → at m q ≡ Some (Weak o) → (n : ℕ) × (at m (Field p n) ≡ Some (Weak o))
  field_index (Handle h i) p o f e = absurd f
  field_index (Cell c) p o f e = absurd f
  field_index (Field r n) p o f e = (n, subst (λ k. at m (Field k n) ≡ Some (Weak o)) f e)

  weak_told : (i j : ℕ) → i < size g → j < size g → HoldsWeaklyAt g i j → HoldsWeakly m (object_at g i) (object_at g j)
  weak_told i j h k it =
      let inside = within_places i it.0 h it.1 in
      field_index (place_at g it.0) (object_at g i) (object_at g j) ((is.fields i it.0 h inside).0 it.1)
      (weak_of (held_at g it.0).slot (place_at g it.0) (object_at g j) it.3 (tells m since g is it.0 inside).slot (λ r n. (is.targets.each it.0 inside r j n k).0 it.2))

  told_weak : (i j : ℕ) → i < size g → j < size g → HoldsWeakly m (object_at g i) (object_at g j) → HoldsWeaklyAt g i j
  told_weak i j h k it =
      let p = place_number (Field (object_at g i) it.0) (Weak (object_at g j)) (object_at g j) it.1 refl in
      let both : Some (held_at g p.0).slot ≡ Some (Weak (object_at g j)) = sym (tells m since g is p.0 p.1).slot ∙ ap (at m) p.2 ∙ it.1 in
      let slot : (held_at g p.0).slot ≡ Weak (object_at g j) = cc in
      (p.0, (is.fields i p.0 h p.1).1 (subst (λ q. IsFieldOf (object_at g i) q) (sym p.2) refl), (is.targets.each p.0 p.1 (object_at g j) j (ap named_by slot) k).1 refl, ap is_weak_slot slot)

  -- What is near and what is shown.

  field_there : (p : ℕ) (q : Place) (s : Slot) → IsFieldOf p q → at m q ≡ Some s → has p (keys m.objects) ≡ true
  field_there p (Handle h i) s f e = absurd f
  field_there p (Cell c) s f e = absurd f
  field_there p (Field o i) s f e = subst (λ k. has k (keys m.objects) ≡ true) f (field_key m number_same o i s e)

  first_slot : (way : List Place) (q : Place) (o : ℕ) → LeadsTo m o (q ∷ way) → (r : ℕ) × (at m q ≡ Some (Strong r))
  first_slot [] q o l = (o, l)
  first_slot (s ∷ way) q o l = (l.0.0, l.0.1)

  way_there : (p o : ℕ) (way : List Place) → IsWay m (IsFieldOf p) o way → has p (keys m.objects) ≡ true
  way_there p o [] w = absurd w.0
  way_there p o (q ∷ way) w = let it = first_slot way q o w.1 in field_there p q (Strong it.0) w.0 it.1

  module _ (AskedAt Asked : ℕ → Type 0) (within : (i : ℕ) → AskedAt i → i < size g) (asked : (i : ℕ) → i < size g → AskedAt i ↔ Asked (object_at g i)) (of : (o : ℕ) → Asked o → has o (keys m.objects) ≡ true) where
    near_told : (i : ℕ) → i < size g → IsNearAt g AskedAt i → IsNear m Asked (object_at g i)
    near_told i h (inl a) = inl ((asked i h).0 a)
    near_told i h (inr it) = let k = within it.0 it.1 in inr (object_at g it.0, (asked it.0 k).0 it.1, weak_told i it.0 h k it.2)

    told_near : (i : ℕ) → i < size g → IsNear m Asked (object_at g i) → IsNearAt g AskedAt i
    told_near i h (inl a) = inl ((asked i h).1 a)
    told_near i h (inr it) =
        let j = index_of_key it.0 (of it.0 it.1) in
        inr (j.0, (asked j.0 j.1).1 (subst Asked (sym j.2) it.1), told_weak i j.0 h j.1 (subst (λ o. HoldsWeakly m (object_at g i) o) (sym j.2) it.2))

    near_there : (o : ℕ) → IsNear m Asked o → has o (keys m.objects) ≡ true
    near_there o (inl a) = of o a
    near_there o (inr it) = field_there o (Field o it.2.0) (Weak it.0) refl it.2.1

    near_within : (j : ℕ) → IsNearAt g AskedAt j → j < size g
    near_within j (inl a) = within j a
    near_within j (inr it) = field_object g j it.2.0 it.2.1

    pub shown_told : (i : ℕ) → i < size g → IsShownAt g AskedAt i → IsShown m Asked (object_at g i)
    shown_told i h (inl n) = inl (near_told i h n)
    shown_told i h (inr it) = let k = near_within it.0 it.1 in inr (object_at g it.0, near_told it.0 k it.1, (keeps_told m since g is i it.0 h k).0 it.2)

    pub told_shown : (i : ℕ) → i < size g → IsShown m Asked (object_at g i) → IsShownAt g AskedAt i
    told_shown i h (inl n) = inl (told_near i h n)
    told_shown i h (inr it) =
        let j = index_of_key it.0 (near_there it.0 it.1) in
        inr (j.0, told_near j.0 j.1 (subst (IsNear m Asked) (sym j.2) it.1), (keeps_told m since g is i j.0 h j.1).1 (subst (λ o. state.Keeps m (object_at g i) o) (sym j.2) it.2))

    pub shown_there : (o : ℕ) → IsShown m Asked o → has o (keys m.objects) ≡ true
    shown_there o (inl n) = near_there o n
    shown_there o (inr it) = way_there o it.0 it.2.0 it.2.1

  -- What was asked for.

  -- where none is given
  module _ (leaked : List Bool) (each : (i : ℕ) → i < size g → (marked leaked i ≡ true) ↔ IsLeaked m (object_at g i)) where
    pub interest_told : (i : ℕ) → i < size g → IsAskedAt g leaked [] i ↔ IsOfInterest m (object_at g i)
    interest_told i h = (λ a. there_from a.1, λ a. (h, from_there a))
      where
        there_from : (marked leaked i ≡ true) ⊎ (alive_at g i ≡ false) → IsOfInterest m (object_at g i)
        there_from (inl e) = inl ((each i h).0 e)
        there_from (inr e) = inr (husk_entry (get m.objects (object_at g i)) (there i h) (sym (is.alive i h) ∙ e))

        from_there : IsOfInterest m (object_at g i) → (marked leaked i ≡ true) ⊎ (alive_at g i ≡ false)
        from_there (inl e) = inl ((each i h).1 e)
        from_there (inr e) = inr (is.alive i h ∙ husk_dead (get m.objects (object_at g i)) e)

  -- where some are
  same_test : (i j : ℕ) → i < size g → j < size g → (j == i) ≡ (object_at g j == object_at g i)
  same_test i j h k = by (j == i) (object_at g j == object_at g i) refl refl
    where
      by : (a b : Bool) → (j == i) ≡ a → (object_at g j == object_at g i) ≡ b → a ≡ b
      by true b e f = sym (same_number (object_at g i)) ∙ ap (λ k. object_at g k == object_at g i) (sym (number_same j i e)) ∙ f
      by false true e f = sym e ∙ ap (λ k. k == i) (same_index g j i k h (number_same (object_at g j) (object_at g i) f)) ∙ same_number i
      by false false e f = refl

  given_one : (o : ℕ) (x : Option ℕ) (i : ℕ) (rest : List ℕ) (b : Bool) → index_in g.objects.items o ≡ x → i < size g → has i rest ≡ b → has i (drawn_by.listed x ++ rest) ≡ ((o == object_at g i) || b)
  given_one o None i rest b e h r = r ∙ sym (ap (λ c. c || b) (by (o == object_at g i) refl))
    where
      by : (c : Bool) → (o == object_at g i) ≡ c → c ≡ false
      by true q = absurd (let same : index_in g.objects.items o ≡ Some i = ap (index_in g.objects.items) (number_same o (object_at g i) q) ∙ index_at g i h in let never : None ≡ Some i = sym e ∙ same in cc)
      by false q = refl
  given_one o (Some j) i rest b e h r =
      let found = index_found g.objects.items o j e in
      ap (λ c. c || has i rest) (same_test i j h found.0 ∙ ap (λ k. k == object_at g i) found.1) ∙ ap (λ c. (o == object_at g i) || c) r

  pub given_told : (os : List ℕ) (i : ℕ) → i < size g → has i (indices_in g.objects.items os) ≡ has (object_at g i) os
  given_told [] i h = refl
  given_told (o ∷ os) i h = given_one o (index_in g.objects.items o) i (indices_in g.objects.items os) (has (object_at g i) os) refl h (given_told os i h)
