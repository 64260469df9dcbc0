-- When two places are the same, and what stands at one place of a list of what moved.
use Rattle.std.proofs.Common.{◌≡◌, ℕ, ◌+◌, List, [], ◌∷◌, refl, ap, ap₂, ◌∙◌, sym, arith, cond, not, ◌&&◌}
use Rattle.std.specs.Prelude.{Some, None, Bool, true, false, ◌==◌, if◌then◌else◌}
use Rattle.std.specs.Ordering.{nat_cmp, is_lt, ordering_then}
use Rattle.std.proofs.lemmas.Bool.{and_parts}
use Rattle.std.proofs.lemmas.Bool.Decides.{nat_tests}
use Rattle.std.proofs.lemmas.List.Elements.{filter_agree}
use Rattle.std.specs.List.Sorted.{ties, IsStableBy}
use Rattle.trace_types.specs.declared.slots.Slot.{Slot}
use Rattle.trace_types.specs.declared.slots.Slot.TheVariants.{Nothing}
use Rattle.retention_model.specs.declared.place.Place.{Place}
use Rattle.retention_model.specs.declared.place.Place.TheVariants.{Handle, Cell, Field}
use Rattle.retention_model.specs.declared.mark.Moved.{Moved}
use Rattle.retention_model.specs.Places.{kind_of, owner_of, rank_of, stands_before, is_same_place}
use Rattle.retention_model.specs.Since.{is_same_slot}
use Rattle.retention_model.specs.Turns.{moved_if, at_place}
use Rattle.retention_model.proofs.SinceLemmas.{same_slot}

pub same_number : (o p : ℕ) → (o == p) ≡ true → o ≡ p
same_number o p same = grind (arith, nat_tests)

pub number_same : (o : ℕ) → (o == o) ≡ true
number_same o = grind (arith, nat_tests)

pub number_apart : (o p : ℕ) → (o == p) ≡ false → (p == o) ≡ false
number_apart o p apart = grind (arith, nat_tests)

next_same : (i j : ℕ) → (i + 1 == j + 1) ≡ (i == j)
next_same i j = grind (arith, nat_tests)

-- places with the same numbers are one
pub same_place : (p q : Place) → is_same_place p q ≡ true → p ≡ q
same_place (Handle h None) (Handle g None) e = ap (λ k. Handle k None) (same_number h g (and_parts (h == g) (0 == 0) e).0)
same_place (Handle h None) (Handle g (Some j)) e =
    let none : 0 ≡ j + 1 = same_number 0 (j + 1) (and_parts (h == g) (0 == j + 1) e).1 in
    absurd (omega (arith, none))
same_place (Handle h (Some i)) (Handle g None) e =
    let none : i + 1 ≡ 0 = same_number (i + 1) 0 (and_parts (h == g) (i + 1 == 0) e).1 in
    absurd (omega (arith, none))
same_place (Handle h (Some i)) (Handle g (Some j)) e =
    let each = and_parts (h == g) (i + 1 == j + 1) e in
    ap₂ (λ k l. Handle k (Some l)) (same_number h g each.0) (same_number i j (sym (next_same i j) ∙ each.1))
same_place (Handle h i) (Cell d) e = absurd cc
same_place (Handle h i) (Field q j) e = absurd cc
same_place (Cell c) (Handle g j) e = absurd cc
same_place (Cell c) (Cell d) e = ap Cell (same_number c d (and_parts (c == d) (0 == 0) e).0)
same_place (Cell c) (Field q j) e = absurd cc
same_place (Field o i) (Handle g j) e = absurd cc
same_place (Field o i) (Cell d) e = absurd cc
same_place (Field o i) (Field q j) e =
    let each = and_parts (o == q) (i == j) e in
    ap₂ Field (same_number o q each.0) (same_number i j each.1)

both_same : (a b : ℕ) → ((a == a) && (b == b)) ≡ true
both_same a b = rw (number_same a, number_same b) refl

pub place_same : (p : Place) → is_same_place p p ≡ true
place_same (Handle h None) = both_same h 0
place_same (Handle h (Some i)) = both_same h (i + 1)
place_same (Cell c) = both_same c 0
place_same (Field o i) = both_same o i

-- what moved at one place, where it moved there or elsewhere
pub moved_same : (p : Place) (s : Slot) → moved_if p s s ≡ []
moved_same p s = ap (λ (b : Bool). if b then [] else record { place = p; before = s; after = s } ∷ []) (same_slot s)

pick : (p : Place) (x : Moved) (b t : Bool) → is_same_place x.place p ≡ t → at_place p (if b then [] else x ∷ []) ≡ (if t then (if b then [] else x ∷ []) else [])
pick p x true true e = refl
pick p x true false e = refl
pick p x false true e = ap (λ (u : Bool). cond u (x ∷ []) []) e
pick p x false false e = ap (λ (u : Bool). cond u (x ∷ []) []) e

pub at_moved : (p q : Place) (s t : Slot) → at_place p (moved_if q s t) ≡ (if is_same_place q p then moved_if q s t else [])
at_moved p q s t = pick p (record { place = q; before = s; after = t }) (is_same_slot s t) (is_same_place q p) refl

pub at_own : (p : Place) (s t : Slot) → at_place p (moved_if p s t) ≡ moved_if p s t
at_own p s t = at_moved p p s t ∙ ap (λ (b : Bool). if b then moved_if p s t else []) (place_same p)

pub at_other : (p q : Place) (s t : Slot) → is_same_place q p ≡ false → at_place p (moved_if q s t) ≡ []
at_other p q s t e = at_moved p q s t ∙ ap (λ (b : Bool). if b then moved_if q s t else []) e

-- A stable sort in the order of places keeps what stands at each place.

three : (a b c d e f : ℕ)
    → (not (is_lt (ordering_then (ordering_then (nat_cmp a d) (nat_cmp b e)) (nat_cmp c f))) && not (is_lt (ordering_then (ordering_then (nat_cmp d a) (nat_cmp e b)) (nat_cmp f c))))
    ≡ ((d == a) && ((e == b) && (f == c)))
three a b c d e f = grind (arith, nat_tests)

tied : (x y : Moved) → ties (λ (x y : Moved). stands_before x.place y.place) x y ≡ is_same_place y.place x.place
tied x y = three (kind_of x.place) (owner_of x.place) (rank_of x.place) (kind_of y.place) (owner_of y.place) (rank_of y.place)

pub at_sorted : (xs ys : List Moved) → IsStableBy (λ (x y : Moved). stands_before x.place y.place) xs ys → (p : Place) → at_place p ys ≡ at_place p xs
at_sorted xs ys stable p =
    let here : Moved = record { place = p; before = Nothing; after = Nothing } in
    let agree = filter_agree (ties (λ (x y : Moved). stands_before x.place y.place) here) (λ (y : Moved). is_same_place y.place p) (tied here) in
    sym (agree ys) ∙ stable here ∙ agree xs
