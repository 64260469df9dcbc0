-- What looks at places find, one after another.
use Rattle.std.proofs.Common.{◌≡◌, ℕ, List, [], ◌++◌, refl, ap, ◌∙◌, sym, subst, append_assoc, append-nil, arith, ◌+◌, ◌<◌, ◌≤◌, take, length, get_or, take_all}
use Rattle.std.specs.Prelude.{Option, Some, None, Bool, true, false, ◌==◌, ◌||◌, ◌&&◌, slice_get, if◌then◌else◌}
use Rattle.std.specs.Ordering.{nat_cmp}
use Rattle.std.specs.BTreeMap.{get, is_at}
use Rattle.std.specs.List.{list_any}
use Rattle.std.specs.Map.{lookup}
use Rattle.std.proofs.lemmas.List.Folds.{list_any_more}
use Rattle.std.specs.FinMap as map
use Rattle.std.proofs.lemmas.Bool.Decides.{nat_tests}
use Rattle.std.proofs.lemmas.List.Elements.{filter-append}
use Rattle.trace_types.specs.declared.slots.Slot.{Slot}
use Rattle.ownership_model.specs.State.{State}
use Rattle.retention_model.specs.declared.place.Place.{Place}
use Rattle.retention_model.specs.declared.place.Place.TheVariants.{Handle, Cell, Field}
use Rattle.retention_model.specs.declared.mark.Moved.{Moved}
use Rattle.retention_model.specs.Places.{at, held_at, field_at, is_same_place}
use Rattle.retention_model.specs.Since.{is_same_slot}
use Rattle.retention_model.specs.Looked.{is_of_handle, is_cell, is_of_object}
use Rattle.retention_model.specs.Turns.{or_nothing, moved_if, at_place}
use Rattle.retention_model.proofs.SinceLemmas.{slot_same, same_slot}
use Rattle.retention.specs.declared.dates.Dates.{Dates}
use Rattle.retention.specs.declared.dated.Dated.{Dated}
use Rattle.retention.specs.declared.dated.Owner.TheVariants as owner
use Rattle.retention.specs.Dates.{dated_in, dated_field, dated_at, redated, redated_if, after_look, slot_in, Looks, index_in, moved_field}
use Rattle.retention.proofs.PlaceLemmas.{same_number, number_same, moved_same, at_own, at_other}

-- the slot that stands in a place after a look at it
after_same : (d : Dated) (id : ℕ) (s : Slot) (b : Bool) → is_same_slot d.slot s ≡ b → slot_in (Some (if b then d else record { slot = s; since = id })) ≡ s
after_same d id s true e = slot_same d.slot s e
after_same d id s false e = refl

pub slot_redated : (d : Option Dated) (id : ℕ) (s : Option Slot) → slot_in (redated_if d id s) ≡ or_nothing s
slot_redated d id None = refl
slot_redated None id (Some s) = refl
slot_redated (Some d) id (Some s) = after_same d id s (is_same_slot d.slot s) refl

-- Looking again finds the same.

again : (d : Dated) (id : ℕ) (s : Slot) (b : Bool) → is_same_slot d.slot s ≡ b
    → redated (Some (if b then d else record { slot = s; since = id })) id s ≡ (if b then d else record { slot = s; since = id })
again d id s true e = ap (λ (b : Bool). if b then d else record { slot = s; since = id }) e
again d id s false e = ap (λ (b : Bool). if b then record { slot = s; since = id } else record { slot = s; since = id }) (same_slot s)

same_again : (d : Option Dated) (id : ℕ) (s : Slot) → redated (Some (redated d id s)) id s ≡ redated d id s
same_again None id s = ap (λ (b : Bool). if b then record { slot = s; since = id } else record { slot = s; since = id }) (same_slot s)
same_again (Some d) id s = again d id s (is_same_slot d.slot s) refl

looked_again : (d : Option Dated) (id : ℕ) (s : Option Slot) → redated_if (redated_if d id s) id s ≡ redated_if d id s
looked_again d id None = refl
looked_again d id (Some s) = ap Some (same_again d id s)

-- one look and then another
or_look : (a b : Bool) (d : Option Dated) (id : ℕ) (s : Option Slot) → after_look b (after_look a d id s) id s ≡ after_look (a || b) d id s
or_look true true d id s = looked_again d id s
or_look true false d id s = refl
or_look false true d id s = refl
or_look false false d id s = refl

-- what moves by both is what moves by both at once
both_move : (p : Place) (a b : Bool) (d : Option Dated) (id : ℕ) (s : Option Slot)
    → moved_if p (slot_in d) (slot_in (after_look a d id s)) ++ moved_if p (slot_in (after_look a d id s)) (slot_in (after_look b (after_look a d id s) id s))
    ≡ moved_if p (slot_in d) (slot_in (after_look (a || b) d id s))
both_move p true true d id s =
    let same = ap (λ x. moved_if p (slot_in (redated_if d id s)) (slot_in x)) (looked_again d id s) ∙ moved_same p (slot_in (redated_if d id s)) in
    ap (λ x. moved_if p (slot_in d) (slot_in (redated_if d id s)) ++ x) same ∙ append-nil (moved_if p (slot_in d) (slot_in (redated_if d id s)))
both_move p true false d id s =
    ap (λ x. moved_if p (slot_in d) (slot_in (redated_if d id s)) ++ x) (moved_same p (slot_in (redated_if d id s))) ∙ append-nil (moved_if p (slot_in d) (slot_in (redated_if d id s)))
both_move p false true d id s = ap (λ x. x ++ moved_if p (slot_in d) (slot_in (redated_if d id s))) (moved_same p (slot_in d))
both_move p false false d id s = ap (λ x. x ++ moved_if p (slot_in d) (slot_in d)) (moved_same p (slot_in d))

-- no place was looked at
pub looks_none : (m : State) (id : ℕ) (d : Dates) (xs : List Moved) → Looks (λ p. false) m id d d xs xs
looks_none m id d xs = record {
  dates = λ p. refl;
  moves = λ p. sym (ap (λ ys. at_place p xs ++ ys) (moved_same p (slot_in (dated_at d p))) ∙ append-nil (at_place p xs));
}

-- the same places
pub looks_as : (L K : Place → Bool) (m : State) (id : ℕ) (d n : Dates) (xs ys : List Moved) → ((p : Place) → L p ≡ K p) → Looks L m id d n xs ys → Looks K m id d n xs ys
looks_as L K m id d n xs ys same looks = record {
  dates = λ p. looks.dates p ∙ ap (λ b. after_look b (dated_at d p) id (at m p)) (same p);
  moves = looks.moves;
}

-- some places and then others
pub looks_then : (L K : Place → Bool) (m : State) (id : ℕ) (d e n : Dates) (xs ys zs : List Moved)
    → Looks L m id d e xs ys → Looks K m id e n ys zs → Looks (λ p. L p || K p) m id d n xs zs
looks_then L K m id d e n xs ys zs first second = record {
  dates = λ p. second.dates p ∙ ap (λ x. after_look (K p) x id (at m p)) (first.dates p) ∙ or_look (L p) (K p) (dated_at d p) id (at m p);
  moves = λ p.
      let old = dated_at d p in
      let mid = after_look (L p) old id (at m p) in
      let end = after_look (K p) mid id (at m p) in
      let ends : dated_at n p ≡ end = second.dates p ∙ ap (λ x. after_look (K p) x id (at m p)) (first.dates p) in
      let one : at_place p ys ≡ at_place p xs ++ moved_if p (slot_in old) (slot_in mid) =
      first.moves p ∙ ap (λ x. at_place p xs ++ moved_if p (slot_in old) (slot_in x)) (first.dates p) in
      let two : at_place p zs ≡ at_place p ys ++ moved_if p (slot_in mid) (slot_in end) =
      second.moves p ∙ ap (λ x. at_place p ys ++ moved_if p (slot_in x) (slot_in (dated_at n p))) (first.dates p)
      ∙ ap (λ x. at_place p ys ++ moved_if p (slot_in mid) (slot_in x)) ends in
      two ∙ ap (λ x. x ++ moved_if p (slot_in mid) (slot_in end)) one
      ∙ append_assoc (at_place p xs) (moved_if p (slot_in old) (slot_in mid)) (moved_if p (slot_in mid) (slot_in end))
      ∙ ap (λ x. at_place p xs ++ x) (both_move p (L p) (K p) old id (at m p))
      ∙ ap (λ x. at_place p xs ++ moved_if p (slot_in old) (slot_in x)) (sym (ends ∙ or_look (L p) (K p) old id (at m p)));
}

-- one more of a list, each of which looks at some places
pub looks_more : {X : Type 0} (f : Place → X → Bool) (xs : List X) (i : ℕ) (x : X) (m : State) (id : ℕ) (d e n : Dates) (ks ls ns : List Moved)
    → Looks (λ p. list_any (f p) (take i xs)) m id d e ks ls → Looks (λ p. f p x) m id e n ls ns → i < length xs → get_or xs i x ≡ x
    → Looks (λ p. list_any (f p) (take (i + 1) xs)) m id d n ks ns
looks_more f xs i x m id d e n ks ls ns first second within is =
    looks_as (λ p. list_any (f p) (take i xs) || f p x) (λ p. list_any (f p) (take (i + 1) xs)) m id d n ks ns
    (λ p. sym (list_any_more (f p) xs i x within ∙ ap (λ y. list_any (f p) (take i xs) || f p y) is))
    (looks_then (λ p. list_any (f p) (take i xs)) (λ p. f p x) m id d e n ks ls ns first second)

-- all of it
pub looks_all : {X : Type 0} (f : Place → X → Bool) (xs : List X) (i : ℕ) (m : State) (id : ℕ) (d n : Dates) (ks ls : List Moved)
    → Looks (λ p. list_any (f p) (take i xs)) m id d n ks ls → length xs ≤ i → Looks (λ p. list_any (f p) xs) m id d n ks ls
looks_all f xs i m id d n ks ls looks all =
    looks_as (λ p. list_any (f p) (take i xs)) (λ p. list_any (f p) xs) m id d n ks ls (λ p. ap (list_any (f p)) (take_all i xs all)) looks

-- What is told of one place, which was looked at or not.

abbrev pub LooksAt : Bool → State → ℕ → Dates → Dates → List Moved → List Moved → Place → Type 0
LooksAt b m id d n xs ys p =
    (dated_at n p ≡ after_look b (dated_at d p) id (at m p))
    × (at_place p ys ≡ at_place p xs ++ moved_if p (slot_in (dated_at d p)) (slot_in (dated_at n p)))

pub looks_each : (L : Place → Bool) (m : State) (id : ℕ) (d n : Dates) (xs ys : List Moved) → ((p : Place) → LooksAt (L p) m id d n xs ys p) → Looks L m id d n xs ys
looks_each L m id d n xs ys each = record { dates = λ p. (each p).0; moves = λ p. (each p).1 }

-- it was looked at, and noted
seen_at : (m : State) (id : ℕ) (d n : Dates) (xs ys : List Moved) (p : Place) → dated_at n p ≡ redated_if (dated_at d p) id (at m p)
    → at_place p ys ≡ at_place p xs ++ moved_if p (slot_in (dated_at d p)) (or_nothing (at m p)) → LooksAt true m id d n xs ys p
seen_at m id d n xs ys p dates noted =
    (dates, noted ∙ ap (λ x. at_place p xs ++ moved_if p (slot_in (dated_at d p)) x) (sym (ap slot_in dates ∙ slot_redated (dated_at d p) id (at m p))))

-- it wasn't, and nothing was noted of it
unseen_at : (m : State) (id : ℕ) (d n : Dates) (xs ys : List Moved) (p : Place) → dated_at n p ≡ dated_at d p
    → at_place p ys ≡ at_place p xs → LooksAt false m id d n xs ys p
unseen_at m id d n xs ys p dates noted = (
  dates,
  noted ∙ sym (ap (λ x. at_place p xs ++ moved_if p (slot_in (dated_at d p)) (slot_in x)) dates
      ∙ ap (λ x. at_place p xs ++ x) (moved_same p (slot_in (dated_at d p))) ∙ append-nil (at_place p xs)),
)

-- a field isn't the slot itself
zero_apart : (i : ℕ) → (0 == i + 1) ≡ false
zero_apart i = grind (arith, nat_tests)

field_apart : (h i : ℕ) → is_same_place (Handle h None) (Handle h (Some i)) ≡ false
field_apart h i = ap (λ (b : Bool). b && (0 == i + 1)) (number_same h) ∙ zero_apart i

-- A look at a handle.
module _ (m : State) (h id : ℕ) (d n : Dates) (s : Option Dated) (ds : List Dated) (x : Option Slot) (ss : List Slot) (xs ys zs : List Moved)
    (was : s ≡ dated_in (get nat_cmp d.handles h) None) (were : (i : ℕ) → slice_get ds i ≡ dated_in (get nat_cmp d.handles h) (Some i))
    (is : x ≡ held_at (map.get m.handles h) None) (are : (i : ℕ) → slice_get ss i ≡ held_at (map.get m.handles h) (Some i))
    (own : dated_in (get nat_cmp n.handles h) None ≡ redated_if s id x)
    (owns : (i : ℕ) → dated_in (get nat_cmp n.handles h) (Some i) ≡ redated_if (slice_get ds i) id (slice_get ss i))
    (others : (g : ℕ) → (h == g) ≡ false → get nat_cmp n.handles g ≡ get nat_cmp d.handles g)
    (cells : n.cells ≡ d.cells) (objects : n.objects ≡ d.objects)
    (first : ys ≡ xs ++ moved_if (Handle h None) (slot_in s) (or_nothing x))
    (rest : (p : Place) → at_place p zs ≡ at_place p ys ++ moved_field (index_in (owner.Handle h) p) p ds ss) where
  all_noted : (p : Place) → at_place p zs ≡ (at_place p xs ++ at_place p (moved_if (Handle h None) (slot_in s) (or_nothing x))) ++ moved_field (index_in (owner.Handle h) p) p ds ss
  all_noted p = rest p ∙ ap (λ l. l ++ moved_field (index_in (owner.Handle h) p) p ds ss)
      (ap (at_place p) first ∙ filter-append (λ (y : Moved). is_same_place y.place p) xs (moved_if (Handle h None) (slot_in s) (or_nothing x)))

  none_noted : (p : Place) → is_same_place (Handle h None) p ≡ false → moved_field (index_in (owner.Handle h) p) p ds ss ≡ [] → at_place p zs ≡ at_place p xs
  none_noted p apart never = all_noted p
      ∙ ap (λ l. (at_place p xs ++ l) ++ moved_field (index_in (owner.Handle h) p) p ds ss) (at_other p (Handle h None) (slot_in s) (or_nothing x) apart)
      ∙ ap (λ l. (at_place p xs ++ []) ++ l) never
      ∙ append-nil (at_place p xs ++ []) ∙ append-nil (at_place p xs)

  handle_itself : LooksAt true m id d n xs zs (Handle h None)
  handle_itself = seen_at m id d n xs zs (Handle h None)
      (own ∙ ap (λ y. redated_if y id x) was ∙ ap (redated_if (dated_in (get nat_cmp d.handles h) None) id) is)
      (all_noted (Handle h None)
      ∙ append-nil (at_place (Handle h None) xs ++ at_place (Handle h None) (moved_if (Handle h None) (slot_in s) (or_nothing x)))
      ∙ ap (λ l. at_place (Handle h None) xs ++ l) (at_own (Handle h None) (slot_in s) (or_nothing x))
      ∙ ap (λ y. at_place (Handle h None) xs ++ moved_if (Handle h None) (slot_in y) (or_nothing x)) was
      ∙ ap (λ y. at_place (Handle h None) xs ++ moved_if (Handle h None) (slot_in (dated_in (get nat_cmp d.handles h) None)) (or_nothing y)) is)

  handle_field : (i : ℕ) → LooksAt true m id d n xs zs (Handle h (Some i))
  handle_field i = seen_at m id d n xs zs (Handle h (Some i))
      (owns i ∙ ap (λ y. redated_if y id (slice_get ss i)) (were i) ∙ ap (redated_if (dated_in (get nat_cmp d.handles h) (Some i)) id) (are i))
      (all_noted (Handle h (Some i))
      ∙ ap (λ l. (at_place (Handle h (Some i)) xs ++ l) ++ moved_field (index_in (owner.Handle h) (Handle h (Some i))) (Handle h (Some i)) ds ss)
      (at_other (Handle h (Some i)) (Handle h None) (slot_in s) (or_nothing x) (field_apart h i))
      ∙ ap (λ l. l ++ moved_field (index_in (owner.Handle h) (Handle h (Some i))) (Handle h (Some i)) ds ss) (append-nil (at_place (Handle h (Some i)) xs))
      ∙ ap (λ (b : Bool). at_place (Handle h (Some i)) xs ++ moved_field (if b then Some i else None) (Handle h (Some i)) ds ss) (number_same h)
      ∙ ap (λ y. at_place (Handle h (Some i)) xs ++ moved_if (Handle h (Some i)) (slot_in y) (or_nothing (slice_get ss i))) (were i)
      ∙ ap (λ y. at_place (Handle h (Some i)) xs ++ moved_if (Handle h (Some i)) (slot_in (dated_in (get nat_cmp d.handles h) (Some i))) (or_nothing y)) (are i))

  own_handle : (i : Option ℕ) → LooksAt true m id d n xs zs (Handle h i)
  own_handle None = handle_itself
  own_handle (Some i) = handle_field i

  other_handle : (g : ℕ) (i : Option ℕ) → (h == g) ≡ false → LooksAt false m id d n xs zs (Handle g i)
  other_handle g None apart = unseen_at m id d n xs zs (Handle g None) (ap (λ y. dated_in y None) (others g apart))
      (none_noted (Handle g None) (ap (λ (b : Bool). b && (0 == 0)) apart) refl)
  other_handle g (Some i) apart = unseen_at m id d n xs zs (Handle g (Some i)) (ap (λ y. dated_in y (Some i)) (others g apart))
      (none_noted (Handle g (Some i)) (ap (λ (b : Bool). b && (0 == i + 1)) apart)
      (ap (λ (b : Bool). moved_field (if b then Some i else None) (Handle g (Some i)) ds ss) apart))

  by_handle : (g : ℕ) (i : Option ℕ) (b : Bool) → (h == g) ≡ b → LooksAt b m id d n xs zs (Handle g i)
  by_handle g i true e = subst (λ k. LooksAt true m id d n xs zs (Handle k i)) (same_number h g e) (own_handle i)
  by_handle g i false e = other_handle g i e

  each_place : (p : Place) → LooksAt (is_of_handle h p) m id d n xs zs p
  each_place (Handle g i) = by_handle g i (h == g) refl
  each_place (Cell c) = unseen_at m id d n xs zs (Cell c) (ap (λ y. get nat_cmp y c) cells) (none_noted (Cell c) refl refl)
  each_place (Field o i) = unseen_at m id d n xs zs (Field o i) (ap (λ y. dated_field (get nat_cmp y o) i) objects) (none_noted (Field o i) refl refl)

  pub handle_looks : Looks (is_of_handle h) m id d n xs zs
  handle_looks = looks_each (is_of_handle h) m id d n xs zs each_place

-- A look at a cell.
module _ (m : State) (c id : ℕ) (d n : Dates) (s : Option Dated) (x : Option Slot) (xs ys : List Moved)
    (was : s ≡ get nat_cmp d.cells c) (is : x ≡ map.get m.cells c) (own : get nat_cmp n.cells c ≡ redated_if s id x)
    (others : (e : ℕ) → (c == e) ≡ false → get nat_cmp n.cells e ≡ get nat_cmp d.cells e)
    (handles : n.handles ≡ d.handles) (objects : n.objects ≡ d.objects)
    (first : ys ≡ xs ++ moved_if (Cell c) (slot_in s) (or_nothing x)) where
  noted_at : (p : Place) → at_place p ys ≡ at_place p xs ++ at_place p (moved_if (Cell c) (slot_in s) (or_nothing x))
  noted_at p = ap (at_place p) first ∙ filter-append (λ (y : Moved). is_same_place y.place p) xs (moved_if (Cell c) (slot_in s) (or_nothing x))

  not_noted : (p : Place) → is_same_place (Cell c) p ≡ false → at_place p ys ≡ at_place p xs
  not_noted p apart = noted_at p ∙ ap (λ l. at_place p xs ++ l) (at_other p (Cell c) (slot_in s) (or_nothing x) apart) ∙ append-nil (at_place p xs)

  own_cell : LooksAt true m id d n xs ys (Cell c)
  own_cell = seen_at m id d n xs ys (Cell c)
      (own ∙ ap (λ y. redated_if y id x) was ∙ ap (redated_if (get nat_cmp d.cells c) id) is)
      (noted_at (Cell c)
      ∙ ap (λ l. at_place (Cell c) xs ++ l) (at_own (Cell c) (slot_in s) (or_nothing x))
      ∙ ap (λ y. at_place (Cell c) xs ++ moved_if (Cell c) (slot_in y) (or_nothing x)) was
      ∙ ap (λ y. at_place (Cell c) xs ++ moved_if (Cell c) (slot_in (get nat_cmp d.cells c)) (or_nothing y)) is)

  by_cell : (e : ℕ) (b : Bool) → (c == e) ≡ b → LooksAt b m id d n xs ys (Cell e)
  by_cell e true same = subst (λ k. LooksAt true m id d n xs ys (Cell k)) (same_number c e same) own_cell
  by_cell e false apart = unseen_at m id d n xs ys (Cell e) (others e apart) (not_noted (Cell e) (ap (λ (b : Bool). b && (0 == 0)) apart))

  each_cell : (p : Place) → LooksAt (is_cell c p) m id d n xs ys p
  each_cell (Handle g i) = unseen_at m id d n xs ys (Handle g i) (ap (λ y. dated_in (get nat_cmp y g) i) handles) (not_noted (Handle g i) refl)
  each_cell (Cell e) = by_cell e (c == e) refl
  each_cell (Field o i) = unseen_at m id d n xs ys (Field o i) (ap (λ y. dated_field (get nat_cmp y o) i) objects) (not_noted (Field o i) refl)

  pub cell_looks : Looks (is_cell c) m id d n xs ys
  cell_looks = looks_each (is_cell c) m id d n xs ys each_cell

-- A look at an object.
module _ (m : State) (o id : ℕ) (d n : Dates) (ds : List Dated) (ss : List Slot) (xs ys : List Moved)
    (were : (i : ℕ) → slice_get ds i ≡ dated_field (get nat_cmp d.objects o) i)
    (are : (i : ℕ) → slice_get ss i ≡ field_at (map.get m.objects o) i)
    (owns : (i : ℕ) → dated_field (get nat_cmp n.objects o) i ≡ redated_if (slice_get ds i) id (slice_get ss i))
    (others : (q : ℕ) → (o == q) ≡ false → get nat_cmp n.objects q ≡ get nat_cmp d.objects q)
    (handles : n.handles ≡ d.handles) (cells : n.cells ≡ d.cells)
    (rest : (p : Place) → at_place p ys ≡ at_place p xs ++ moved_field (index_in (owner.Object o) p) p ds ss) where
  nothing_noted : (p : Place) → moved_field (index_in (owner.Object o) p) p ds ss ≡ [] → at_place p ys ≡ at_place p xs
  nothing_noted p none = rest p ∙ ap (λ l. at_place p xs ++ l) none ∙ append-nil (at_place p xs)

  own_field : (i : ℕ) → LooksAt true m id d n xs ys (Field o i)
  own_field i = seen_at m id d n xs ys (Field o i)
      (owns i ∙ ap (λ y. redated_if y id (slice_get ss i)) (were i) ∙ ap (redated_if (dated_field (get nat_cmp d.objects o) i) id) (are i))
      (rest (Field o i)
      ∙ ap (λ (b : Bool). at_place (Field o i) xs ++ moved_field (if b then Some i else None) (Field o i) ds ss) (number_same o)
      ∙ ap (λ y. at_place (Field o i) xs ++ moved_if (Field o i) (slot_in y) (or_nothing (slice_get ss i))) (were i)
      ∙ ap (λ y. at_place (Field o i) xs ++ moved_if (Field o i) (slot_in (dated_field (get nat_cmp d.objects o) i)) (or_nothing y)) (are i))

  by_object : (q i : ℕ) (b : Bool) → (o == q) ≡ b → LooksAt b m id d n xs ys (Field q i)
  by_object q i true same = subst (λ k. LooksAt true m id d n xs ys (Field k i)) (same_number o q same) (own_field i)
  by_object q i false apart = unseen_at m id d n xs ys (Field q i) (ap (λ y. dated_field y i) (others q apart))
      (nothing_noted (Field q i) (ap (λ (b : Bool). moved_field (if b then Some i else None) (Field q i) ds ss) apart))

  each_object : (p : Place) → LooksAt (is_of_object o p) m id d n xs ys p
  each_object (Handle g i) = unseen_at m id d n xs ys (Handle g i) (ap (λ y. dated_in (get nat_cmp y g) i) handles) (nothing_noted (Handle g i) refl)
  each_object (Cell e) = unseen_at m id d n xs ys (Cell e) (ap (λ y. get nat_cmp y e) cells) (nothing_noted (Cell e) refl)
  each_object (Field q i) = by_object q i (o == q) refl

  pub object_looks : Looks (is_of_object o) m id d n xs ys
  object_looks = looks_each (is_of_object o) m id d n xs ys each_object

-- Dates that keep nothing.
pub none_dated : (d : Dates) → d.handles.entries ≡ [] → d.cells.entries ≡ [] → d.objects.entries ≡ [] → (p : Place) → dated_at d p ≡ None
none_dated d handles cells objects (Handle h i) = ap (λ es. dated_in (lookup (is_at (nat_cmp h)) es) i) handles
none_dated d handles cells objects (Cell c) = ap (λ es. lookup (is_at (nat_cmp c)) es) cells
none_dated d handles cells objects (Field o i) = ap (λ es. dated_field (lookup (is_at (nat_cmp o)) es) i) objects
