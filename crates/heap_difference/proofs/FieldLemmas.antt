-- Fields of objects that are alike but for loose ones, and fields that are set.
use Rattle.std.proofs.Common.{◌≡◌, ℕ, zero, suc, ◌<◌, List, [], ◌∷◌, length, refl, ap, ◌∙◌, sym, subst, arith, Bool, true, false}
use Rattle.std.specs.Prelude.{◌==◌, ◌||◌, ◌&&◌, Option, Some, None, if◌then◌else◌, slice_get, slice_set}
use Rattle.std.proofs.lemmas.Bool.Decides.{nat_tests}
use Rattle.std.specs.List.{AllByRecursion}
use Rattle.std.specs.FinMap.{get}
use Rattle.trace_types.specs.declared.slots.Slot.{Slot}
use Rattle.trace_types.specs.declared.slots.Slot.TheVariants.{Nothing}
use Rattle.trace_types.specs.declared.slots.Entry.{Entry}
use Rattle.trace_types.specs.declared.slots.Entry.TheVariants.{Alive, Husk}
use Rattle.ownership_model.specs.State.{State}
use Rattle.ownership_model.specs.Changes.{with_field, HasField}
use Rattle.ownership_model.specs.Table.{fields_of}
use Rattle.ownership_model.specs.Near.{AreFieldsNear, AreEntriesNear}
use Rattle.ownership_model.proofs.Counting.{same_number, get_inserted}
use Rattle.object_heap.specs.declared.put.FieldPut.{FieldPut}
use Rattle.object_heap.specs.Laid.{with_field_put, with_fields, CanSet}
use Rattle.heap_difference.specs.Alikes.{is_loose, HoldFields}
use Rattle.heap_difference.proofs.Tests.{clash}
use Rattle.heap_difference.proofs.AlikeLemmas.{less_loose, less_loose_entry}

-- where none is loose they are the same
fields_same : (loose : ℕ → Bool) (xs ys : List Slot) → ((i : ℕ) → loose i ≡ false) → AreFieldsNear loose xs ys → xs ≡ ys
fields_same loose [] [] none near = refl
fields_same loose [] (y ∷ ys) none near = absurd near
fields_same loose (x ∷ xs) [] none near = absurd near
fields_same loose (x ∷ xs) (y ∷ ys) none near = λ i. near.0 (none 0) i ∷ fields_same (λ j. loose (suc j)) xs ys (λ j. none (suc j)) near.1 i

entries_same : (loose : ℕ → Bool) (e f : Option Entry) → ((i : ℕ) → loose i ≡ false) → AreEntriesNear loose e f → e ≡ f
entries_same loose (Some (Alive xs)) (Some (Alive ys)) none near = ap (λ s. Some (Alive s)) (fields_same loose xs ys none near)
entries_same loose (Some (Alive xs)) (Some Husk) none near = absurd near
entries_same loose (Some (Alive xs)) None none near = absurd near
entries_same loose (Some Husk) f none near = absurd near
entries_same loose None f none near = absurd near

some_slot : (s t : Slot) → Some s ≡ Some t → s ≡ t
some_slot s t e = ap (λ (o : Option Slot). of o) e
  where
    of : Option Slot → Slot
    of None = Nothing
    of (Some z) = z

-- what wouldn't be loose before if it isn't now is loose now if it was
still_loose : (a b : Bool) → (b ≡ false → a ≡ false) → a ≡ true → b ≡ true
still_loose a true so e = refl
still_loose a false so e = absurd (clash a e (so refl))

none_first : (j : ℕ) → (0 == suc j) ≡ false
none_first j = grind (arith, nat_tests)

one_more : (i j : ℕ) → (i == j) ≡ false → (suc i == suc j) ≡ false
one_more i j e = grind (arith, nat_tests, e)

-- a field is set to what it holds in the other list: so it need not be loose any more
set_near : (loose rest : ℕ → Bool) (i : ℕ) (s : Slot) (xs ys : List Slot) → ((j : ℕ) → rest j ≡ false → (i == j) ≡ false → loose j ≡ false) → AreFieldsNear loose xs ys → slice_get ys i ≡ Some s
    → AreFieldsNear rest (slice_set xs i s) ys
set_near loose rest i s [] [] less near there = tt
set_near loose rest i s [] (y ∷ ys) less near there = absurd near
set_near loose rest i s (x ∷ xs) [] less near there = absurd near
set_near loose rest zero s (x ∷ xs) (y ∷ ys) less near there =
    (λ e. sym (some_slot y s there), less_loose (λ j. loose (suc j)) (λ j. rest (suc j)) xs ys (λ j. still_loose (loose (suc j)) (rest (suc j)) (λ e. less (suc j) e (none_first j))) near.1)
set_near loose rest (suc i) s (x ∷ xs) (y ∷ ys) less near there =
    (λ e. near.0 (less 0 e (grind (arith, nat_tests))), set_near (λ j. loose (suc j)) (λ j. rest (suc j)) i s xs ys (λ j e f. less (suc j) e (one_more i j f)) near.1 there)

set_entry_near : (loose rest : ℕ → Bool) (i : ℕ) (s : Slot) (e f : Option Entry) → ((j : ℕ) → rest j ≡ false → (i == j) ≡ false → loose j ≡ false) → AreEntriesNear loose e f → slice_get (fields_of f) i ≡ Some s
    → AreEntriesNear rest (Some (with_field e i s)) f
set_entry_near loose rest i s (Some (Alive xs)) (Some (Alive ys)) less near there = set_near loose rest i s xs ys less near there
set_entry_near loose rest i s (Some (Alive xs)) (Some Husk) less near there = absurd near
set_entry_near loose rest i s (Some (Alive xs)) None less near there = absurd near
set_entry_near loose rest i s (Some Husk) f less near there = absurd near
set_entry_near loose rest i s None f less near there = absurd near

-- a field that is there in the one is there in the other
there_in : (loose : ℕ → Bool) (i : ℕ) (s : Slot) (xs ys : List Slot) → AreFieldsNear loose xs ys → slice_get ys i ≡ Some s → i < length xs
there_in loose i s [] [] near there = absurd cc
there_in loose i s [] (y ∷ ys) near there = absurd near
there_in loose i s (x ∷ xs) [] near there = absurd near
there_in loose zero s (x ∷ xs) (y ∷ ys) near there = omega arith
there_in loose (suc i) s (x ∷ xs) (y ∷ ys) near there = let rest : i < length xs = there_in (λ j. loose (suc j)) i s xs ys near.1 there in omega (arith, rest)

has_field : (loose : ℕ → Bool) (i : ℕ) (s : Slot) (e f : Option Entry) → AreEntriesNear loose e f → slice_get (fields_of f) i ≡ Some s → HasField e i
has_field loose i s (Some (Alive xs)) (Some (Alive ys)) near there = there_in loose i s xs ys near there
has_field loose i s (Some (Alive xs)) (Some Husk) near there = absurd near
has_field loose i s (Some (Alive xs)) None near there = absurd near
has_field loose i s (Some Husk) f near there = absurd near
has_field loose i s None f near there = absurd near

-- ---- fields that are set, one after another
pub fields_rest : (fields : List FieldPut) (x : State) → ((with_fields fields x).handles ≡ x.handles) × ((with_fields fields x).scopes ≡ x.scopes) × ((with_fields fields x).cells ≡ x.cells)
fields_rest [] x = (refl, refl, refl)
fields_rest (f ∷ fields) x = fields_rest fields (with_field_put f x)

-- what is not loose behind a field that was set, and isn't that, was not loose before
not_one : (b c d : Bool) → b ≡ true → d ≡ false → c ≡ false → ((b && c) || d) ≡ false
not_one true true d e f g = absurd cc
not_one true false d e f g = f
not_one false c d e f g = absurd cc

-- what is loose in all, and not of the first one's object, is loose in the others
other_one : (b c d : Bool) → b ≡ false → ((b && c) || d) ≡ true → d ≡ true
other_one true c d e f = absurd cc
other_one false c d e f = f

module _ (a : ℕ → Bool) (m : State) where
  -- each of these objects is near to what it is in m
  abbrev AllNear : List FieldPut → State → Type 0
  AllNear fields x = (o : ℕ) → a o ≡ true → AreEntriesNear (is_loose fields o) (get x.objects o) (get m.objects o)

  near_behind : (f : FieldPut) (fields : List FieldPut) (x : State) → slice_get (fields_of (get m.objects f.object)) f.index ≡ Some f.slot → AllNear (f ∷ fields) x → AllNear fields (with_field_put f x)
  near_behind f fields x holds near o here =
      subst (λ (e : Option Entry). AreEntriesNear (is_loose fields o) e (get m.objects o)) (sym (get_inserted x.objects f.object (with_field (get x.objects f.object) f.index f.slot) o)) (at (f.object == o) refl)
    where
      at : (b : Bool) → (f.object == o) ≡ b → AreEntriesNear (is_loose fields o) (if b then Some (with_field (get x.objects f.object) f.index f.slot) else get x.objects o) (get m.objects o)
      at true e =
          let same : f.object ≡ o = same_number f.object o e in
          set_entry_near (is_loose (f ∷ fields) o) (is_loose fields o) f.index f.slot (get x.objects f.object) (get m.objects o) (λ j g h. not_one (f.object == o) (f.index == j) (is_loose fields o j) e g h)
          (subst (λ q. AreEntriesNear (is_loose (f ∷ fields) o) (get x.objects q) (get m.objects o)) (sym same) (near o here))
          (subst (λ q. slice_get (fields_of (get m.objects q)) f.index ≡ Some f.slot) same holds)
      at false e = less_loose_entry (is_loose (f ∷ fields) o) (is_loose fields o) (get x.objects o) (get m.objects o) (λ j g. other_one (f.object == o) (f.index == j) (is_loose fields o j) e g) (near o here)

  -- they become what they are in m
  pub fields_get : (fields : List FieldPut) (x : State) → HoldFields fields m → AllNear fields x → (o : ℕ) → a o ≡ true → get (with_fields fields x).objects o ≡ get m.objects o
  fields_get [] x holds near o here = entries_same (is_loose [] o) (get x.objects o) (get m.objects o) (λ i. refl) (near o here)
  fields_get (f ∷ fields) x holds near o here = fields_get fields (with_field_put f x) holds.1 (near_behind f fields x holds.0 near) o here

  -- and no other object changes
  pub fields_others : (fields : List FieldPut) (x : State) → AllByRecursion (λ f. a f.object ≡ true) fields → (o : ℕ) → a o ≡ false → get (with_fields fields x).objects o ≡ get x.objects o
  fields_others [] x own o out = refl
  fields_others (f ∷ fields) x own o out =
      fields_others fields (with_field_put f x) own.1 o out ∙ get_inserted x.objects f.object (with_field (get x.objects f.object) f.index f.slot) o ∙ at (f.object == o) refl
    where
      at : (b : Bool) → (f.object == o) ≡ b → (if b then Some (with_field (get x.objects f.object) f.index f.slot) else get x.objects o) ≡ get x.objects o
      at true e = absurd (clash (a f.object) own.0 (ap a (same_number f.object o e) ∙ out))
      at false e = refl

  -- each is there to be set
  pub can_set : (fields : List FieldPut) (x : State) → HoldFields fields m → AllByRecursion (λ f. a f.object ≡ true) fields → AllNear fields x → CanSet x fields
  can_set [] x holds own near = tt
  can_set (f ∷ fields) x holds own near = (
    has_field (is_loose (f ∷ fields) f.object) f.index f.slot (get x.objects f.object) (get m.objects f.object) (near f.object own.0) holds.0,
    can_set fields (with_field_put f x) holds.1 own.1 (near_behind f fields x holds.0 near),
  )
