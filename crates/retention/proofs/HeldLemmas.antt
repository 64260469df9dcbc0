-- The places that name an object, in their order: what each holds, and that each such place is there.
use Rattle.std.proofs.lemmas.List.{get_or_append_left}
use Rattle.std.proofs.Common.{get_or-append-add}
use Rattle.std.proofs.Common.{◌≡◌, ℕ, zero, suc, ◌+◌, ◌<◌, ◌≤◌, ◌⊎◌, inl, inr, List, [], ◌∷◌, ◌++◌, length, get_or, refl, sym, ap, ◌∙◌, subst, arith, append_assoc, Bool, true, false, length-append}
use Rattle.std.specs.Prelude.{Option, Some, None, flat_map, is_some, ◌==◌, ◌||◌, ◌&&◌, map, slice_get}
use Rattle.std.specs.List.{AllByRecursion}
use Rattle.std.specs.Ordering.{nat_cmp, is_lt}
use Rattle.std.proofs.Common.{Ordering, Less, Equal, Greater, T, zero-le}
use Rattle.std.specs.FinMap.{FinMap, get, keys, entries, entries_sorted, contains_key-keys}
use Rattle.std.specs.FinMap.Entries.{is_sorted, below_all}
use Rattle.std.specs.List.Sorted.{IsStrictlySortedBy}
use Rattle.std.proofs.lemmas.Bool.Decides.{nat_tests}
use Rattle.ownership_model.specs.Reach.{has}
use Rattle.ownership_model.proofs.Searching.{has_as_any}
use Rattle.trace_types.specs.declared.slots.Slot.{Slot}
use Rattle.trace_types.specs.declared.slots.Slot.TheVariants.{Nothing, Strong, Weak, Dangling}
use Rattle.trace_types.specs.declared.slots.Holding.{Holding}
use Rattle.trace_types.specs.declared.slots.Holding.TheVariants as holding
use Rattle.trace_types.specs.declared.slots.Entry.{Entry}
use Rattle.trace_types.specs.declared.slots.Entry.TheVariants.{Alive, Husk}
use Rattle.ownership_model.specs.State.{State}
use Rattle.retention_model.specs.declared.place.Place.{Place}
use Rattle.retention_model.specs.declared.place.Place.TheVariants.{Handle, Cell, Field}
use Rattle.retention_model.specs.declared.place.Held.{Held}
use Rattle.retention_model.specs.Places.{at, held_at, field_at, Precedes, kind_of, owner_of, rank_of, places_from, handle_places, object_places, places_of}
use Rattle.retention.specs.HeldPlaces.{held_if, held_among, root_places_of, field_places_of}
use Rattle.trace_types.specs.Slots.{named_by}

pub held_append : (m : State) (since : Place → ℕ) (ps qs : List Place) → held_among m since (ps ++ qs) ≡ held_among m since ps ++ held_among m since qs
held_append m since [] qs = refl
held_append m since (p ∷ ps) qs = ap (λ hs. held_if p (at m p) (since p) ++ hs) (held_append m since ps qs) ∙ sym (append_assoc (held_if p (at m p) (since p)) (held_among m since ps) (held_among m since qs))

all_append : (P : Held → Type 0) (xs ys : List Held) → AllByRecursion P xs → AllByRecursion P ys → AllByRecursion P (xs ++ ys)
all_append P [] ys a b = b
all_append P (x ∷ xs) ys a b = (a.0, all_append P xs ys a.1 b)

-- an element of the list tells what its place holds, and since when
pub record Tells (m : State) (since : Place → ℕ) (h : Held) : Type 0 where
  pub slot : at m h.place ≡ Some h.slot
  pub date : h.since ≡ since h.place
  pub object : ℕ
  pub names : named_by h.slot ≡ Some object

-- where each of some places is such, each element's place is
held_if_all : (m : State) (since : Place → ℕ) (Is : Place → Type 0) (p : Place) (s : Option Slot) → at m p ≡ s → Is p → AllByRecursion (λ h. Tells m since h × Is h.place) (held_if p s (since p))
held_if_all m since Is p None e is = tt
held_if_all m since Is p (Some Nothing) e is = tt
held_if_all m since Is p (Some (Strong o)) e is = ((record { slot = e; date = refl; object = o; names = refl }, is), tt)
held_if_all m since Is p (Some (Weak o)) e is = ((record { slot = e; date = refl; object = o; names = refl }, is), tt)
held_if_all m since Is p (Some Dangling) e is = tt

pub held_all : (m : State) (since : Place → ℕ) (Is : Place → Type 0) (ps : List Place) → AllByRecursion Is ps → AllByRecursion (λ h. Tells m since h × Is h.place) (held_among m since ps)
held_all m since Is [] all = tt
held_all m since Is (p ∷ ps) all =
    all_append (λ h. Tells m since h × Is h.place) (held_if p (at m p) (since p)) (held_among m since ps) (held_if_all m since Is p (at m p) refl all.0) (held_all m since Is ps all.1)

-- Where a place stands among places.

abbrev pub Stands : List Place → Place → Type 0
Stands [] q = ⊥
Stands (p ∷ ps) q = (p ≡ q) ⊎ Stands ps q

pub stands_left : (ps qs : List Place) (q : Place) → Stands ps q → Stands (ps ++ qs) q
stands_left [] qs q h = absurd h
stands_left (p ∷ ps) qs q (inl e) = inl e
stands_left (p ∷ ps) qs q (inr h) = inr (stands_left ps qs q h)

pub stands_right : (ps qs : List Place) (q : Place) → Stands qs q → Stands (ps ++ qs) q
stands_right [] qs q h = h
stands_right (p ∷ ps) qs q h = inr (stands_right ps qs q h)

either_name : (P : Type 0) (a b : Bool) → (a || b) ≡ true → (a ≡ true → P) → (b ≡ true → P) → P
either_name P true b h p q = p refl
either_name P false b h p q = q h

stands_flat : (f : ℕ → List Place) (ks : List ℕ) (k : ℕ) (q : Place) → ((a b : ℕ) → (a == b) ≡ true → a ≡ b) → has k ks ≡ true → Stands (f k) q → Stands (flat_map f ks) q
stands_flat f [] k q same h there = absurd cc
stands_flat f (j ∷ ks) k q same h there =
    either_name (Stands (f j ++ flat_map f ks) q) (j == k) (has k ks) h
    (λ e. stands_left (f j) (flat_map f ks) q (subst (λ x. Stands (f x) q) (sym (same j k e)) there))
    (λ e. stands_right (f j) (flat_map f ks) q (stands_flat f ks k q same e there))

-- what a map has is among its keys
pub key_of : {X : Type 0} (map : FinMap nat_cmp X) (k : ℕ) (x : X) → get map k ≡ Some x → has k (keys map) ≡ true
key_of map k x e = sym (has_as_any k (keys map)) ∙ sym (contains_key-keys map k) ∙ ap is_some e

-- fields, the first of which has this index
stands_from : (place : ℕ → Place) (i j : ℕ) (ss : List Slot) (s : Slot) → slice_get ss j ≡ Some s → Stands (places_from place i ss) (place (i + j))
stands_from place i j [] s e = absurd cc
stands_from place i zero (t ∷ ss) s e = inl (ap place (let n : i ≡ i + 0 = omega arith in n))
stands_from place i (suc j) (t ∷ ss) s e = inr (subst (λ k. Stands (places_from place (i + 1) ss) (place k)) (let n : i + 1 + j ≡ i + suc j = omega arith in n) (stands_from place (i + 1) j ss s e))

at_zero : (place : ℕ → Place) (j : ℕ) (ss : List Slot) (s : Slot) → slice_get ss j ≡ Some s → Stands (places_from place 0 ss) (place j)
at_zero place j ss s e = subst (λ k. Stands (places_from place 0 ss) (place k)) (let n : 0 + j ≡ j = omega arith in n) (stands_from place 0 j ss s e)

handle_stands : (h : ℕ) (x : Option Holding) (i : Option ℕ) (s : Slot) → held_at x i ≡ Some s → Stands (handle_places h x) (Handle h i)
handle_stands h None i s e = absurd cc
handle_stands h (Some (holding.Slot t)) None s e = inl refl
handle_stands h (Some (holding.Slot t)) (Some i) s e = absurd cc
handle_stands h (Some (holding.Bare fields)) None s e = absurd cc
handle_stands h (Some (holding.Bare fields)) (Some i) s e = at_zero (λ i. Handle h (Some i)) i fields s e

object_stands : (o : ℕ) (x : Option Entry) (i : ℕ) (s : Slot) → field_at x i ≡ Some s → Stands (object_places o x) (Field o i)
object_stands o None i s e = absurd cc
object_stands o (Some (Alive fields)) i s e = at_zero (Field o) i fields s e
object_stands o (Some Husk) i s e = absurd cc

some_holding : (x : Option Holding) (i : Option ℕ) (s : Slot) → held_at x i ≡ Some s → (h : Holding) × (x ≡ Some h)
some_holding None i s e = absurd cc
some_holding (Some h) i s e = (h, refl)

some_entry : (x : Option Entry) (i : ℕ) (s : Slot) → field_at x i ≡ Some s → (h : Entry) × (x ≡ Some h)
some_entry None i s e = absurd cc
some_entry (Some h) i s e = (h, refl)

module _ (m : State) (same : (a b : ℕ) → (a == b) ≡ true → a ≡ b) where
  pub field_key : (o i : ℕ) (s : Slot) → at m (Field o i) ≡ Some s → has o (keys m.objects) ≡ true
  field_key o i s e = let it = some_entry (get m.objects o) i s e in key_of m.objects o it.0 it.1

  -- each place that holds a slot is one of them
  pub all_stand : (q : Place) (s : Slot) → at m q ≡ Some s → Stands (places_of m) q
  all_stand (Handle h i) s e =
      let it = some_holding (get m.handles h) i s e in
      stands_left (root_places_of m) (field_places_of m (keys m.objects)) (Handle h i)
      (stands_left (flat_map (λ h. handle_places h (get m.handles h)) (keys m.handles)) (flat_map (λ c. Cell c ∷ []) (keys m.cells)) (Handle h i)
      (stands_flat (λ h. handle_places h (get m.handles h)) (keys m.handles) h (Handle h i) same (key_of m.handles h it.0 it.1) (handle_stands h (get m.handles h) i s e)))
  all_stand (Cell c) s e =
      stands_left (root_places_of m) (field_places_of m (keys m.objects)) (Cell c)
      (stands_right (flat_map (λ h. handle_places h (get m.handles h)) (keys m.handles)) (flat_map (λ c. Cell c ∷ []) (keys m.cells)) (Cell c)
      (stands_flat (λ c. Cell c ∷ []) (keys m.cells) c (Cell c) same (key_of m.cells c s e) (inl refl)))
  all_stand (Field o i) s e =
      stands_right (root_places_of m) (field_places_of m (keys m.objects)) (Field o i)
      (stands_flat (λ o. object_places o (get m.objects o)) (keys m.objects) o (Field o i) same (field_key o i s e) (object_stands o (get m.objects o) i s e))

-- a place that names an object stands among those that do
abbrev pub IsListed : List Held → Place → Type 0
IsListed hs q = (k : ℕ) × (k < length hs) × ((d : Held) → (get_or hs k d).place ≡ q)

listed_left : (xs ys : List Held) (q : Place) → IsListed xs q → IsListed (xs ++ ys) q
listed_left xs ys q it =
    let h : it.0 < length xs = it.1 in
    (it.0, let l : length (xs ++ ys) ≡ length xs + length ys = length-append xs ys in omega (arith, l, h), λ d. ap (λ (x : Held). x.place) (get_or_append_left xs ys d it.0 it.1) ∙ it.2 d)

listed_right : (xs ys : List Held) (q : Place) → IsListed ys q → IsListed (xs ++ ys) q
listed_right xs ys q it =
    let h : it.0 < length ys = it.1 in
    (length xs + it.0, let l : length (xs ++ ys) ≡ length xs + length ys = length-append xs ys in omega (arith, l, h), λ d. ap (λ (x : Held). x.place) (get_or-append-add xs ys it.0 d) ∙ it.2 d)

listed_if : (p : Place) (x : Option Slot) (s : Slot) (o since : ℕ) → x ≡ Some s → named_by s ≡ Some o → IsListed (held_if p x since) p
listed_if p None s o since e n = absurd cc
listed_if p (Some Nothing) s o since e n = absurd (let same : Nothing ≡ s = cc in let none : named_by s ≡ None = ap named_by (sym same) in cc)
listed_if p (Some (Strong r)) s o since e n = (0, omega arith, λ d. refl)
listed_if p (Some (Weak r)) s o since e n = (0, omega arith, λ d. refl)
listed_if p (Some Dangling) s o since e n = absurd (let same : Dangling ≡ s = cc in let none : named_by s ≡ None = ap named_by (sym same) in cc)

pub listed : (m : State) (since : Place → ℕ) (ps : List Place) (q : Place) (s : Slot) (o : ℕ) → Stands ps q → at m q ≡ Some s → named_by s ≡ Some o → IsListed (held_among m since ps) q
listed m since [] q s o h e n = absurd h
listed m since (p ∷ ps) q s o (inl same) e n =
    listed_left (held_if p (at m p) (since p)) (held_among m since ps) q
    (subst (λ x. IsListed (held_if p (at m p) (since p)) x) same (listed_if p (at m p) s o (since p) (ap (at m) same ∙ e) n))
listed m since (p ∷ ps) q s o (inr h) e n = listed_right (held_if p (at m p) (since p)) (held_among m since ps) q (listed m since ps q s o h e n)

-- The order of places.

abbrev pub AreBefore : Place → List Place → Type 0
AreBefore p [] = Unit {0}
AreBefore p (q ∷ qs) = Precedes p q × AreBefore p qs

abbrev pub AreInOrder : List Place → Type 0
AreInOrder [] = Unit {0}
AreInOrder (p ∷ ps) = AreBefore p ps × AreInOrder ps

abbrev pub AllBefore : List Place → List Place → Type 0
AllBefore [] qs = Unit {0}
AllBefore (p ∷ ps) qs = AreBefore p qs × AllBefore ps qs

before_append : (p : Place) (qs rs : List Place) → AreBefore p qs → AreBefore p rs → AreBefore p (qs ++ rs)
before_append p [] rs a b = b
before_append p (q ∷ qs) rs a b = (a.0, before_append p qs rs a.1 b)

order_append : (ps qs : List Place) → AreInOrder ps → AreInOrder qs → AllBefore ps qs → AreInOrder (ps ++ qs)
order_append [] qs a b c = b
order_append (p ∷ ps) qs a b c = (before_append p ps qs a.0 c.0, order_append ps qs a.1 b c.1)

-- all of a kind, with owners from one number on
abbrev pub AreFrom : ℕ → ℕ → List Place → Type 0
AreFrom kind k ps = AllByRecursion (λ p. (kind_of p ≡ kind) × (k ≤ owner_of p)) ps

-- all of a kind and an owner
abbrev pub AreOf : ℕ → ℕ → List Place → Type 0
AreOf kind k ps = AllByRecursion (λ p. (kind_of p ≡ kind) × (owner_of p ≡ k)) ps

of_before : (kind k n : ℕ) (p : Place) (qs : List Place) → kind_of p ≡ kind → owner_of p ≡ k → k < n → AreFrom kind n qs → AreBefore p qs
of_before kind k n p [] a b l h = tt
of_before kind k n p (q ∷ qs) a b l h = (inr (inl (a ∙ sym h.0.0, let u : n ≤ owner_of q = h.0.1 in omega (arith, b, l, u))), of_before kind k n p qs a b l h.1)

all_of_before : (kind k n : ℕ) (ps qs : List Place) → AreOf kind k ps → k < n → AreFrom kind n qs → AllBefore ps qs
all_of_before kind k n [] qs a l h = tt
all_of_before kind k n (p ∷ ps) qs a l h = (of_before kind k n p qs a.0.0 a.0.1 l h, all_of_before kind k n ps qs a.1 l h)

from_of : (kind k n : ℕ) (ps : List Place) → n ≤ k → AreOf kind k ps → AreFrom kind n ps
from_of kind k n [] l h = tt
from_of kind k n (p ∷ ps) l h = ((h.0.0, let e : owner_of p ≡ k = h.0.1 in omega (arith, e, l)), from_of kind k n ps l h.1)

from_append : (kind n : ℕ) (ps qs : List Place) → AreFrom kind n ps → AreFrom kind n qs → AreFrom kind n (ps ++ qs)
from_append kind n [] qs a b = b
from_append kind n (p ∷ ps) qs a b = (a.0, from_append kind n ps qs a.1 b)

-- keys that rise
abbrev pub RisingFrom : ℕ → List ℕ → Type 0
RisingFrom n [] = Unit {0}
RisingFrom n (k ∷ ks) = (n ≤ k) × RisingFrom (k + 1) ks

flat_from : (kind : ℕ) (f : ℕ → List Place) → ((k : ℕ) → AreOf kind k (f k)) → (n low : ℕ) (ks : List ℕ) → low ≤ n → RisingFrom n ks → AreFrom kind low (flat_map f ks)
flat_from kind f of n low [] l h = tt
flat_from kind f of n low (k ∷ ks) l h =
    let first : n ≤ k = h.0 in
    from_append kind low (f k) (flat_map f ks) (from_of kind k low (f k) (omega (arith, first, l)) (of k)) (flat_from kind f of (k + 1) low ks (omega (arith, first, l)) h.1)

flat_order : (kind : ℕ) (f : ℕ → List Place) → ((k : ℕ) → AreOf kind k (f k)) → ((k : ℕ) → AreInOrder (f k)) → (n : ℕ) (ks : List ℕ) → RisingFrom n ks → AreInOrder (flat_map f ks)
flat_order kind f of order n [] h = tt
flat_order kind f of order n (k ∷ ks) h =
    order_append (f k) (flat_map f ks) (order k) (flat_order kind f of order (k + 1) ks h.1)
    (all_of_before kind k (k + 1) (f k) (flat_map f ks) (of k) (omega arith) (flat_from kind f of (k + 1) (k + 1) ks (omega arith) h.1))

-- places of different kinds
kinds_before : (a b : ℕ) (p : Place) (qs : List Place) → kind_of p ≡ a → a < b → AllByRecursion (λ q. kind_of q ≡ b) qs → AreBefore p qs
kinds_before a b p [] e l h = tt
kinds_before a b p (q ∷ qs) e l h = (inl (let f : kind_of q ≡ b = h.0 in omega (arith, e, l, f)), kinds_before a b p qs e l h.1)

all_kinds_before : (a b : ℕ) (ps qs : List Place) → AllByRecursion (λ q. kind_of q ≡ a) ps → a < b → AllByRecursion (λ q. kind_of q ≡ b) qs → AllBefore ps qs
all_kinds_before a b [] qs e l h = tt
all_kinds_before a b (p ∷ ps) qs e l h = (kinds_before a b p qs e.0 l h, all_kinds_before a b ps qs e.1 l h)

all_before_append : (ps qs rs : List Place) → AllBefore ps rs → AllBefore qs rs → AllBefore (ps ++ qs) rs
all_before_append [] qs rs a b = b
all_before_append (p ∷ ps) qs rs a b = (a.0, all_before_append ps qs rs a.1 b)

kind_from : (kind n : ℕ) (ps : List Place) → AreFrom kind n ps → AllByRecursion (λ q. kind_of q ≡ kind) ps
kind_from kind n [] h = tt
kind_from kind n (p ∷ ps) h = (h.0.0, kind_from kind n ps h.1)

-- fields of one owner
module _ (kind k c : ℕ) (place : ℕ → Place) (of_kind : (i : ℕ) → kind_of (place i) ≡ kind) (of_owner : (i : ℕ) → owner_of (place i) ≡ k) (of_rank : (i : ℕ) → rank_of (place i) ≡ i + c) where
  field_before : (j i : ℕ) (ss : List Slot) → j < i → AreBefore (place j) (places_from place i ss)
  field_before j i [] h = tt
  field_before j i (s ∷ ss) h = (
    inr (inr (of_kind j ∙ sym (of_kind i), of_owner j ∙ sym (of_owner i), let a : rank_of (place j) ≡ j + c = of_rank j in let b : rank_of (place i) ≡ i + c = of_rank i in omega (arith, a, b, h))),
    field_before j (i + 1) ss (omega (arith, h)),
  )

  fields_in_order : (i : ℕ) (ss : List Slot) → AreInOrder (places_from place i ss)
  fields_in_order i [] = tt
  fields_in_order i (s ∷ ss) = (field_before i (i + 1) ss (omega arith), fields_in_order (i + 1) ss)

  fields_of_owner : (i : ℕ) (ss : List Slot) → AreOf kind k (places_from place i ss)
  fields_of_owner i [] = tt
  fields_of_owner i (s ∷ ss) = ((of_kind i, of_owner i), fields_of_owner (i + 1) ss)

handle_order : (h : ℕ) (x : Option Holding) → AreInOrder (handle_places h x)
handle_order h None = tt
handle_order h (Some (holding.Slot s)) = (tt, tt)
handle_order h (Some (holding.Bare fields)) = fields_in_order 0 h 1 (λ i. Handle h (Some i)) (λ i. refl) (λ i. refl) (λ i. refl) 0 fields

handle_of : (h : ℕ) (x : Option Holding) → AreOf 0 h (handle_places h x)
handle_of h None = tt
handle_of h (Some (holding.Slot s)) = ((refl, refl), tt)
handle_of h (Some (holding.Bare fields)) = fields_of_owner 0 h 1 (λ i. Handle h (Some i)) (λ i. refl) (λ i. refl) (λ i. refl) 0 fields

plus_zero : (i : ℕ) → i ≡ i + 0
plus_zero i = omega arith

object_order : (o : ℕ) (x : Option Entry) → AreInOrder (object_places o x)
object_order o None = tt
object_order o (Some (Alive fields)) = fields_in_order 2 o 0 (Field o) (λ i. refl) (λ i. refl) plus_zero 0 fields
object_order o (Some Husk) = tt

object_of : (o : ℕ) (x : Option Entry) → AreOf 2 o (object_places o x)
object_of o None = tt
object_of o (Some (Alive fields)) = fields_of_owner 2 o 0 (Field o) (λ i. refl) (λ i. refl) plus_zero 0 fields
object_of o (Some Husk) = tt

-- the keys of a map rise
less_key : (a b n : ℕ) → nat_cmp a b ≡ Less → n ≡ a + 1 → n ≤ b
less_key a b n e s = grind (arith, nat_tests, e, s)

rise_after : (k : ℕ) (ks : List ℕ) → AllByRecursion (λ y. nat_cmp k y ≡ Less) ks → IsStrictlySortedBy nat_cmp ks → RisingFrom (k + 1) ks
unfolding IsStrictlySortedBy
rise_after k [] all h = tt
rise_after k (j ∷ ks) all h = (less_key k j (k + 1) all.0 refl, rise_after j ks h.0 h.1)

rise_from : (ks : List ℕ) → IsStrictlySortedBy nat_cmp ks → RisingFrom 0 ks
unfolding IsStrictlySortedBy
rise_from [] h = tt
rise_from (k ∷ ks) h = (zero-le, rise_after k ks h.0 h.1)

less_of : (o : Ordering) → T (is_lt o) → o ≡ Less
less_of Less h = refl
less_of Equal h = absurd h
less_of Greater h = absurd h

first_both : (a b : Bool) → T (a && b) → T a
first_both true b h = tt
first_both false b h = absurd h

second_both : (a b : Bool) → T (a && b) → T b
second_both true b h = h
second_both false b h = absurd h

above_keys : {X : Type 0} (k : ℕ) (es : List (ℕ × X)) → T (below_all nat_cmp k es) → AllByRecursion (λ y. nat_cmp k y ≡ Less) (map (λ e. e.0) es)
above_keys k [] h = tt
above_keys k (e ∷ es) h = (less_of _ (first_both _ _ h), above_keys k es (second_both _ _ h))

sorted_keys : {X : Type 0} (es : List (ℕ × X)) → T (is_sorted nat_cmp es) → IsStrictlySortedBy nat_cmp (map (λ e. e.0) es)
unfolding IsStrictlySortedBy
sorted_keys [] h = tt
sorted_keys (e ∷ es) h = (above_keys e.0 es (first_both _ _ h), sorted_keys es (second_both _ _ h))

pub keys_rise : {X : Type 0} (m : FinMap nat_cmp X) → RisingFrom 0 (keys m)
keys_rise m = rise_from (keys m) (sorted_keys (entries m) (entries_sorted m))

pub keys_sorted : {X : Type 0} (m : FinMap nat_cmp X) → IsStrictlySortedBy nat_cmp (keys m)
keys_sorted m = sorted_keys (entries m) (entries_sorted m)

-- so the places of a state stand in their order
pub places_in_order : (m : State) → AreInOrder (places_of m)
places_in_order m =
    let hs = flat_map (λ h. handle_places h (get m.handles h)) (keys m.handles) in
    let cs = flat_map (λ c. Cell c ∷ []) (keys m.cells) in
    let os = flat_map (λ o. object_places o (get m.objects o)) (keys m.objects) in
    let hf : AreFrom 0 0 hs = flat_from 0 (λ h. handle_places h (get m.handles h)) (λ h. handle_of h (get m.handles h)) 0 0 (keys m.handles) zero-le (keys_rise m.handles) in
    let cf : AreFrom 1 0 cs = flat_from 1 (λ c. Cell c ∷ []) (λ c. ((refl, refl), tt)) 0 0 (keys m.cells) zero-le (keys_rise m.cells) in
    let of : AreFrom 2 0 os = flat_from 2 (λ o. object_places o (get m.objects o)) (λ o. object_of o (get m.objects o)) 0 0 (keys m.objects) zero-le (keys_rise m.objects) in
    order_append (hs ++ cs) os
    (order_append hs cs
    (flat_order 0 (λ h. handle_places h (get m.handles h)) (λ h. handle_of h (get m.handles h)) (λ h. handle_order h (get m.handles h)) 0 (keys m.handles) (keys_rise m.handles))
    (flat_order 1 (λ c. Cell c ∷ []) (λ c. ((refl, refl), tt)) (λ c. (tt, tt)) 0 (keys m.cells) (keys_rise m.cells))
    (all_kinds_before 0 1 hs cs (kind_from 0 0 hs hf) (omega arith) (kind_from 1 0 cs cf)))
    (flat_order 2 (λ o. object_places o (get m.objects o)) (λ o. object_of o (get m.objects o)) (λ o. object_order o (get m.objects o)) 0 (keys m.objects) (keys_rise m.objects))
    (all_before_append hs cs os (all_kinds_before 0 2 hs os (kind_from 0 0 hs hf) (omega arith) (kind_from 2 0 os of)) (all_kinds_before 1 2 cs os (kind_from 1 0 cs cf) (omega arith) (kind_from 2 0 os of)))

-- and so do those that name an object
abbrev pub places_in : List Held → List Place
places_in hs = map (λ h. h.place) hs

before_if : (p q : Place) (s : Option Slot) (since : ℕ) (hs : List Held) → Precedes p q → AreBefore p (places_in hs) → AreBefore p (places_in (held_if q s since ++ hs))
before_if p q None since hs a b = b
before_if p q (Some Nothing) since hs a b = b
before_if p q (Some (Strong o)) since hs a b = (a, b)
before_if p q (Some (Weak o)) since hs a b = (a, b)
before_if p q (Some Dangling) since hs a b = b

before_held : (m : State) (since : Place → ℕ) (p : Place) (ps : List Place) → AreBefore p ps → AreBefore p (places_in (held_among m since ps))
before_held m since p [] h = tt
before_held m since p (q ∷ ps) h = before_if p q (at m q) (since q) (held_among m since ps) h.0 (before_held m since p ps h.1)

order_if : (q : Place) (s : Option Slot) (since : ℕ) (hs : List Held) → AreBefore q (places_in hs) → AreInOrder (places_in hs) → AreInOrder (places_in (held_if q s since ++ hs))
order_if q None since hs a b = b
order_if q (Some Nothing) since hs a b = b
order_if q (Some (Strong o)) since hs a b = (a, b)
order_if q (Some (Weak o)) since hs a b = (a, b)
order_if q (Some Dangling) since hs a b = b

pub held_in_order : (m : State) (since : Place → ℕ) (ps : List Place) → AreInOrder ps → AreInOrder (places_in (held_among m since ps))
held_in_order m since [] h = tt
held_in_order m since (p ∷ ps) h = order_if p (at m p) (since p) (held_among m since ps) (before_held m since p ps h.0) (held_in_order m since ps h.1)

-- by their numbers
before_at : (p : Place) (hs : List Held) (j : ℕ) (d : Held) → AreBefore p (places_in hs) → j < length hs → Precedes p (get_or hs j d).place
before_at p [] j d h l = absurd (omega (arith, l))
before_at p (x ∷ hs) zero d h l = h.0
before_at p (x ∷ hs) (suc j) d h l = before_at p hs j d h.1 (omega (arith, l))

pub order_at : (hs : List Held) (i j : ℕ) (d : Held) → AreInOrder (places_in hs) → i < j → j < length hs → Precedes (get_or hs i d).place (get_or hs j d).place
order_at [] i j d h l k = absurd (omega (arith, k))
order_at (x ∷ hs) i zero d h l k = absurd (omega (arith, l))
order_at (x ∷ hs) zero (suc j) d h l k = before_at x.place hs j d h.0 (omega (arith, k))
order_at (x ∷ hs) (suc i) (suc j) d h l k = order_at hs i j d h.1 (omega (arith, l)) (omega (arith, k))
