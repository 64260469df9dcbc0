-- Fields, one more at a time: what moved at them, their dates, and those that name an object.
use Rattle.std.proofs.Common.{◌≡◌, ℕ, zero, suc, ◌+◌, List, [], ◌∷◌, ◌++◌, take, refl, ap, ap₂, ◌∙◌, sym, subst, arith, add-one, append-nil, append_assoc}
use Rattle.std.specs.Prelude.{Option, Some, None, Bool, true, false, ◌==◌, ◌&&◌, slice_get, option_map, if◌then◌else◌}
use Rattle.std.specs.FinMap as map
use Rattle.std.proofs.lemmas.Bool.Decides.{nat_tests}
use Rattle.std.proofs.lemmas.List.Elements.{filter-append}
use Rattle.trace_types.specs.declared.slots.Slot.{Slot}
use Rattle.trace_types.specs.declared.slots.Slot.TheVariants.{Nothing}
use Rattle.trace_types.specs.declared.slots.Holding.{Holding}
use Rattle.trace_types.specs.declared.slots.Holding.TheVariants as holding
use Rattle.trace_types.specs.declared.slots.Entry.{Entry}
use Rattle.trace_types.specs.declared.slots.Entry.TheVariants.{Alive, Husk}
use Rattle.ownership_model.specs.State.{State}
use Rattle.retention_model.specs.declared.place.Place.{Place}
use Rattle.retention_model.specs.declared.place.Place.TheVariants.{Handle, Cell, Field}
use Rattle.retention_model.specs.declared.mark.Moved.{Moved}
use Rattle.retention_model.specs.Places.{at, held_at, field_at, is_same_place, handle_places, object_places, places_from}
use Rattle.retention_model.specs.Turns.{or_nothing, moved_if, at_place}
use Rattle.retention.specs.declared.dated.Dated.{Dated}
use Rattle.retention.specs.declared.dated.DatedFields.{DatedFields}
use Rattle.retention.specs.declared.dated.DatedHolding.{DatedHolding}
use Rattle.retention.specs.declared.dated.Owner.{Owner}
use Rattle.retention.specs.declared.dated.Owner.TheVariants as owner
use Rattle.retention.specs.Dates.{dated_in, dated_field, redated_if, redated_all, slot_in, field_place, index_in, moved_field}
use Rattle.retention.specs.HeldPlaces.{held_if, held_among}
use Rattle.retention.specs.Lists.{held_dated, held_fields}
use Rattle.retention.proofs.PlaceLemmas.{same_number, number_same, moved_same, at_own, at_other, same_place}

-- The dates of fields.

-- the field with an index, of all that were redated
pub get_redated : (id : ℕ) (ds : List Dated) (ss : List Slot) (i : ℕ) → slice_get (redated_all id ds ss) i ≡ redated_if (slice_get ds i) id (slice_get ss i)
get_redated id [] [] zero = refl
get_redated id [] [] (suc i) = refl
get_redated id (d ∷ ds) [] zero = refl
get_redated id (d ∷ ds) [] (suc i) = refl
get_redated id [] (s ∷ ss) zero = refl
get_redated id [] (s ∷ ss) (suc i) = get_redated id [] ss i
get_redated id (d ∷ ds) (s ∷ ss) zero = refl
get_redated id (d ∷ ds) (s ∷ ss) (suc i) = get_redated id ds ss i

-- What moved at fields.

get_take_same : {X : Type 0} (xs : List X) (i : ℕ) → slice_get (take (suc i) xs) i ≡ slice_get xs i
get_take_same [] zero = refl
get_take_same [] (suc i) = refl
get_take_same (x ∷ xs) zero = refl
get_take_same (x ∷ xs) (suc i) = get_take_same xs i

get_take_end : {X : Type 0} (xs : List X) (i : ℕ) → slice_get (take i xs) i ≡ None
get_take_end xs zero = refl
get_take_end [] (suc i) = refl
get_take_end (x ∷ xs) (suc i) = get_take_end xs i

get_take_other : {X : Type 0} (xs : List X) (i j : ℕ) → (i ≡ j → ⊥) → slice_get (take (suc i) xs) j ≡ slice_get (take i xs) j
get_take_other [] zero j apart = refl
get_take_other [] (suc i) j apart = refl
get_take_other (x ∷ xs) zero zero apart = absurd (apart refl)
get_take_other (x ∷ xs) zero (suc j) apart = refl
get_take_other (x ∷ xs) (suc i) zero apart = refl
get_take_other (x ∷ xs) (suc i) (suc j) apart = get_take_other xs i j (λ e. apart (ap suc e))

-- whether the index is this one
is_index : ℕ → Option ℕ → Bool
is_index i None = false
is_index i (Some j) = i == j

next_index : (i j : ℕ) → (i + 1 == j + 1) ≡ (i == j)
next_index i j = grind (arith, nat_tests)

no_index : (i : ℕ) → (i + 1 == 0) ≡ false
no_index i = grind (arith, nat_tests)

no_field : (b : Bool) (i : ℕ) → (b && (i + 1 == 0)) ≡ false
no_field true i = no_index i
no_field false i = refl

by_owner : (b c d : Bool) (i j : ℕ) → c ≡ d → (i == j) ≡ d → (b && c) ≡ is_index i (if b then Some j else None)
unfolding is_index
by_owner true c d i j e same = e ∙ sym same
by_owner false c d i j e same = refl

-- a place is the field with the index exactly where it has it
place_is : (o : Owner) (i : ℕ) (p : Place) → is_same_place (field_place o i) p ≡ is_index i (index_in o p)
unfolding is_index
place_is (owner.Handle h) i (Handle g None) = no_field (h == g) i
place_is (owner.Handle h) i (Handle g (Some j)) = by_owner (h == g) (i + 1 == j + 1) (i == j) i j (next_index i j) refl
place_is (owner.Handle h) i (Cell c) = refl
place_is (owner.Handle h) i (Field q j) = refl
place_is (owner.Object o) i (Handle g j) = refl
place_is (owner.Object o) i (Cell c) = refl
place_is (owner.Object o) i (Field q j) = by_owner (o == q) (i == j) (i == j) i j refl refl

-- the place of an index
is_own : (j : ℕ) (x : Option ℕ) → x ≡ Some j → is_index j x ≡ true
unfolding is_index
is_own j None e = absurd cc
is_own j (Some k) e = let same : k ≡ j = cc in rw same (number_same j)

own_place : (o : Owner) (p : Place) (j : ℕ) → index_in o p ≡ Some j → field_place o j ≡ p
own_place o p j e = same_place (field_place o j) p (place_is o j p ∙ is_own j (index_in o p) e)

-- of the fields of one owner, with one more of each
module _ (p : Place) (q : Place) (ds : List Dated) (ss : List Slot) (i : ℕ) where
  -- what moved at the next field
  abbrev here : List Moved
  here = moved_if q (slot_in (slice_get ds i)) (or_nothing (slice_get ss i))

  at_field : (j : ℕ) (b : Bool) → (i == j) ≡ b → is_same_place q p ≡ b → (b ≡ true → q ≡ p)
      → moved_field (Some j) p (take (suc i) ds) (take (suc i) ss) ≡ moved_field (Some j) p (take i ds) (take i ss) ++ at_place p here
  at_field j true e same is =
      let index : i ≡ j = same_number i j e in
      let new : moved_field (Some i) p (take (suc i) ds) (take (suc i) ss) ≡ moved_if p (slot_in (slice_get ds i)) (or_nothing (slice_get ss i)) =
      ap₂ (λ x y. moved_if p (slot_in x) (or_nothing y)) (get_take_same ds i) (get_take_same ss i) in
      let old : moved_field (Some i) p (take i ds) (take i ss) ≡ [] =
      ap₂ (λ x y. moved_if p (slot_in x) (or_nothing y)) (get_take_end ds i) (get_take_end ss i) ∙ moved_same p Nothing in
      let own : at_place p here ≡ moved_if p (slot_in (slice_get ds i)) (or_nothing (slice_get ss i)) =
      ap (λ (r : Place). at_place p (moved_if r (slot_in (slice_get ds i)) (or_nothing (slice_get ss i)))) (is refl)
      ∙ at_own p (slot_in (slice_get ds i)) (or_nothing (slice_get ss i)) in
      subst (λ k. moved_field (Some k) p (take (suc i) ds) (take (suc i) ss) ≡ moved_field (Some k) p (take i ds) (take i ss) ++ at_place p here) index
      (new ∙ sym (ap₂ (λ x y. x ++ y) old own))
  at_field j false e same is =
      let apart : i ≡ j → ⊥ = λ index. let told : (i == j) ≡ true = subst (λ k. (i == k) ≡ true) index (number_same i) in absurd cc in
      ap₂ (λ x y. moved_if p (slot_in x) (or_nothing y)) (get_take_other ds i j apart) (get_take_other ss i j apart)
      ∙ sym (ap (λ x. moved_field (Some j) p (take i ds) (take i ss) ++ x) (at_other p q (slot_in (slice_get ds i)) (or_nothing (slice_get ss i)) same)
      ∙ append-nil (moved_field (Some j) p (take i ds) (take i ss)))

  at_none : is_same_place q p ≡ false → [] ≡ at_place p here
  at_none apart = sym (at_other p q (slot_in (slice_get ds i)) (or_nothing (slice_get ss i)) apart)

no_owner : (o : Owner) (p : Place) (i : ℕ) → index_in o p ≡ None → is_same_place (field_place o i) p ≡ false
unfolding is_index
no_owner o p i e = place_is o i p ∙ ap (is_index i) e

some_owner : (o : Owner) (p : Place) (i j : ℕ) → index_in o p ≡ Some j → is_same_place (field_place o i) p ≡ (i == j)
unfolding is_index
some_owner o p i j e = place_is o i p ∙ ap (is_index i) e

by_index : (o : Owner) (p : Place) (ds : List Dated) (ss : List Slot) (i : ℕ) (x : Option ℕ) → index_in o p ≡ x
    → moved_field x p (take (suc i) ds) (take (suc i) ss)
    ≡ moved_field x p (take i ds) (take i ss) ++ at_place p (moved_if (field_place o i) (slot_in (slice_get ds i)) (or_nothing (slice_get ss i)))
by_index o p ds ss i None e = at_none p (field_place o i) ds ss i (no_owner o p i e)
by_index o p ds ss i (Some j) e =
    at_field p (field_place o i) ds ss i j (i == j) refl (some_owner o p i j e) (λ same. ap (field_place o) (same_number i j same) ∙ own_place o p j e)

pub moved_next : (o : Owner) (p : Place) (ds : List Dated) (ss : List Slot) (i : ℕ)
    → moved_field (index_in o p) p (take (i + 1) ds) (take (i + 1) ss)
    ≡ moved_field (index_in o p) p (take i ds) (take i ss) ++ at_place p (moved_if (field_place o i) (slot_in (slice_get ds i)) (or_nothing (slice_get ss i)))
moved_next o p ds ss i = rw add-one (by_index o p ds ss i (index_in o p) refl)

-- one more is noted
pub noted_more : (o : Owner) (ds : List Dated) (ss : List Slot) (i : ℕ) (xs mid ys : List Moved) (q : Place) (s t : Slot)
    → q ≡ field_place o i → s ≡ slot_in (slice_get ds i) → t ≡ or_nothing (slice_get ss i) → ys ≡ mid ++ moved_if q s t
    → ((p : Place) → at_place p mid ≡ at_place p xs ++ moved_field (index_in o p) p (take i ds) (take i ss))
    → (p : Place) → at_place p ys ≡ at_place p xs ++ moved_field (index_in o p) p (take (i + 1) ds) (take (i + 1) ss)
noted_more o ds ss i xs mid ys q s t place before after noted so_far p =
    let here = at_place p (moved_if (field_place o i) (slot_in (slice_get ds i)) (or_nothing (slice_get ss i))) in
    let moved : moved_if q s t ≡ moved_if (field_place o i) (slot_in (slice_get ds i)) (or_nothing (slice_get ss i)) =
    ap (λ r. moved_if r s t) place ∙ ap₂ (moved_if (field_place o i)) before after in
    ap (at_place p) noted ∙ filter-append (λ (y : Moved). is_same_place y.place p) mid (moved_if q s t)
    ∙ ap₂ (λ k l. k ++ at_place p l) (so_far p) moved
    ∙ append_assoc (at_place p xs) (moved_field (index_in o p) p (take i ds) (take i ss)) here
    ∙ ap (λ l. at_place p xs ++ l) (sym (moved_next o p ds ss i))

pub moved_none : (x : Option ℕ) (p : Place) → moved_field x p [] [] ≡ []
moved_none None p = refl
moved_none (Some j) p = moved_same p Nothing

-- Those that name an object.

-- the places of fields, of which the dates tell
module _ (m : State) (since : Place → ℕ) where
  abbrev pub told : Place → Option Slot → Option Dated
  told p x = option_map (λ s. record { slot = s; since = since p }) x

  held_told : (p : Place) (x : Option Slot) → held_dated p (told p x) ≡ held_if p x (since p)
  held_told p None = refl
  held_told p (Some s) = refl

  pub one_held : (p : Place) (d : Option Dated) → d ≡ told p (at m p) → held_dated p d ≡ held_if p (at m p) (since p)
  one_held p d e = ap (held_dated p) e ∙ held_told p (at m p)

  pub fields_told : (place : ℕ → Place) (ds : List Dated) (ss : List Slot) (i : ℕ)
      → ((n : ℕ) → slice_get ds n ≡ told (place (n + i)) (slice_get ss n)) → ((n : ℕ) → at m (place (n + i)) ≡ slice_get ss n)
      → held_fields place i ds ≡ held_among m since (places_from place i ss)
  fields_told place [] [] i dates stands = refl
  fields_told place [] (s ∷ ss) i dates stands = let none : None ≡ told (place (0 + i)) (Some s) = dates 0 in absurd cc
  fields_told place (d ∷ ds) [] i dates stands = let none : Some d ≡ None = dates 0 in absurd cc
  fields_told place (d ∷ ds) (s ∷ ss) i dates stands =
      let here : place (0 + i) ≡ place i = ap place (omega arith) in
      let first : Some d ≡ told (place i) (at m (place i)) =
      dates 0 ∙ ap (told (place (0 + i))) (sym (stands 0)) ∙ ap (λ p. told p (at m p)) here in
      ap₂ (λ x y. x ++ y) (one_held (place i) (Some d) first)
      (fields_told place ds ss (i + 1)
      (λ n. let next : place (suc n + i) ≡ place (n + (i + 1)) = ap place (omega arith) in dates (suc n) ∙ ap (λ p. told p (slice_get ss n)) next)
      (λ n. let next : place (suc n + i) ≡ place (n + (i + 1)) = ap place (omega arith) in sym (ap (at m) next) ∙ stands (suc n)))

  -- of a handle
  abbrev pub field_parts : Option DatedHolding → List Dated
  field_parts None = []
  field_parts (Some x) = x.fields.slots.items

  abbrev bare_fields : Option Holding → List Slot
  bare_fields None = []
  bare_fields (Some (holding.Slot s)) = []
  bare_fields (Some (holding.Bare fields)) = fields

  get_parts : (x : Option DatedHolding) (i : ℕ) → slice_get (field_parts x) i ≡ dated_in x (Some i)
  get_parts None i = refl
  get_parts (Some x) i = refl

  get_bare : (x : Option Holding) (i : ℕ) → held_at x (Some i) ≡ slice_get (bare_fields x) i
  get_bare None i = refl
  get_bare (Some (holding.Slot s)) i = refl
  get_bare (Some (holding.Bare fields)) i = refl

  split_places : (h : ℕ) (x : Option Holding) → map.get m.handles h ≡ x
      → held_if (Handle h None) (at m (Handle h None)) (since (Handle h None)) ++ held_among m since (places_from (λ i. Handle h (Some i)) 0 (bare_fields x))
      ≡ held_among m since (handle_places h x)
  split_places h None e = ap (λ y. held_if (Handle h None) (held_at y None) (since (Handle h None)) ++ []) e
  split_places h (Some (holding.Slot s)) e = refl
  split_places h (Some (holding.Bare fields)) e =
      ap (λ y. held_if (Handle h None) (held_at y None) (since (Handle h None)) ++ held_among m since (places_from (λ i. Handle h (Some i)) 0 fields)) e

  pub handle_told : (h : ℕ) (x : Option DatedHolding) → ((i : Option ℕ) → dated_in x i ≡ told (Handle h i) (at m (Handle h i)))
      → held_dated (Handle h None) (dated_in x None) ++ held_fields (λ i. Handle h (Some i)) 0 (field_parts x) ≡ held_among m since (handle_places h (map.get m.handles h))
  handle_told h x tells =
      ap₂ (λ k l. k ++ l) (one_held (Handle h None) (dated_in x None) (tells None))
      (fields_told (λ i. Handle h (Some i)) (field_parts x) (bare_fields (map.get m.handles h)) 0
      (λ n. let same : Handle h (Some n) ≡ Handle h (Some (n + 0)) = ap (λ k. Handle h (Some k)) (omega arith) in
      get_parts x n ∙ tells (Some n) ∙ ap (λ p. told p (at m (Handle h (Some n)))) same ∙ ap (told (Handle h (Some (n + 0)))) (get_bare (map.get m.handles h) n))
      (λ n. let same : Handle h (Some (n + 0)) ≡ Handle h (Some n) = ap (λ k. Handle h (Some k)) (omega arith) in ap (at m) same ∙ get_bare (map.get m.handles h) n))
      ∙ split_places h (map.get m.handles h) refl

  -- of an object
  abbrev pub field_list : Option DatedFields → List Dated
  field_list None = []
  field_list (Some x) = x.slots.items

  abbrev alive_fields : Option Entry → List Slot
  alive_fields None = []
  alive_fields (Some (Alive fields)) = fields
  alive_fields (Some Husk) = []

  get_list : (x : Option DatedFields) (i : ℕ) → slice_get (field_list x) i ≡ dated_field x i
  get_list None i = refl
  get_list (Some x) i = refl

  get_alive : (x : Option Entry) (i : ℕ) → field_at x i ≡ slice_get (alive_fields x) i
  get_alive None i = refl
  get_alive (Some (Alive fields)) i = refl
  get_alive (Some Husk) i = refl

  object_parts : (o : ℕ) (x : Option Entry) → places_from (Field o) 0 (alive_fields x) ≡ object_places o x
  object_parts o None = refl
  object_parts o (Some (Alive fields)) = refl
  object_parts o (Some Husk) = refl

  pub object_told : (o : ℕ) (x : Option DatedFields) → ((i : ℕ) → dated_field x i ≡ told (Field o i) (at m (Field o i)))
      → held_fields (Field o) 0 (field_list x) ≡ held_among m since (object_places o (map.get m.objects o))
  object_told o x tells =
      fields_told (Field o) (field_list x) (alive_fields (map.get m.objects o)) 0
      (λ n. let same : Field o n ≡ Field o (n + 0) = ap (Field o) (omega arith) in
      get_list x n ∙ tells n ∙ ap (λ p. told p (at m (Field o n))) same ∙ ap (told (Field o (n + 0))) (get_alive (map.get m.objects o) n))
      (λ n. let same : Field o (n + 0) ≡ Field o n = ap (Field o) (omega arith) in ap (at m) same ∙ get_alive (map.get m.objects o) n)
      ∙ ap (held_among m since) (object_parts o (map.get m.objects o))
