-- Bits of words, and keys that were put in.
use Rattle.std.proofs.Common.{◌≡◌, ◌∙◌, ℕ, ◌<◌, ◌+◌, ◌*◌, ◌/◌, ◌%◌, ◌^◌, List, [], ◌∷◌, ◌++◌, length, map, take, get_or, set, refl, subst, ap, sym, inl, inr, arith, bit_or, bit_and, min, Bool, true, false, w64}
use Rattle.std.specs.Int.{bit_at}
use Rattle.std.proofs.lemmas.Bool.{cases_eq}
use Rattle.std.proofs.lemmas.List.{get_or-set_same, get_or-set_other}
use Rattle.std.proofs.lemmas.List.{take_more, append-nil}
use Rattle.std.proofs.lemmas.Grind.{flat_map-append}
use Rattle.std.proofs.lemmas.Nat.Bits.{bit_at_set_same, bit_at_set_other, bit_at_and, bit_at-zero}
use Rattle.std.proofs.lemmas.Bool.Decides.{nat_tests}
use Rattle.std.specs.Prelude.{◌||◌, flat_map}
use Rattle.trace_types.specs.declared.kinds.Field.{Field}
use Rattle.trace_types.specs.declared.kinds.Field.TheVariants as field
use Rattle.trace_types.specs.declared.outcomes.Event.{Event}
use Rattle.ownership_model.specs.View.{held_fields}
use Rattle.ownership_model.specs.Touched.{event_object}
use Rattle.std.specs.List.{list_any}
use Rattle.heap_difference.proofs.Tests.{clash}
use Rattle.heap_difference.specs.declared.key_set.KeySet.{KeySet}
use Rattle.heap_difference.specs.KeySets.{is_among}
use Rattle.ownership_model.specs.declared.key.Key.{Key}
use Rattle.ownership_model.specs.declared.key.Key.TheVariants.{Handle, Cell, Object, Scope}
use Rattle.ownership_model.specs.Alike.{AreWithin}
use Rattle.heap_difference.specs.Filters.{class_of, class_bit, may_have, HasPutIn}

-- ---- the bit of a class is set
module _ (words : List ℕ) (long : length words ≡ 32) (c : ℕ) (within : c < 2048) where
  abbrev pub word : ℕ
  word = get_or words (c / 64) 0

  abbrev pub more : ℕ
  more = bit_or word (1 * 2 ^ (c % 64) % 2 ^ 64)

  at : c / 64 < length words
  at = omega (arith, within, long)

  small : c % 64 < 64
  small = omega arith

  pub bit_is_set : class_bit (set words (c / 64) more) c ≡ 1
  bit_is_set = ap (λ w. bit_at w (c % 64)) (get_or-set_same words (c / 64) more 0 at) ∙ bit_at_set_same w64 word (c % 64) small

  pub bit_stays : (e : ℕ) → class_bit words e ≡ 1 → class_bit (set words (c / 64) more) e ≡ 1
  bit_stays e h = elim (cases_eq (e / 64) (c / 64)) [
    | inl same ↦ elim (cases_eq (e % 64) (c % 64)) [
      | inl too ↦ ap (λ i. bit_at (get_or (set words (c / 64) more) i 0) (e % 64)) same ∙ ap (λ k. bit_at (get_or (set words (c / 64) more) (c / 64) 0) k) too ∙ bit_is_set
      | inr other ↦
          ap (λ i. bit_at (get_or (set words (c / 64) more) i 0) (e % 64)) same ∙ ap (λ w. bit_at w (e % 64)) (get_or-set_same words (c / 64) more 0 at)
          ∙ bit_at_set_other w64 word (c % 64) small (e % 64) other ∙ sym (ap (λ i. bit_at (get_or words i 0) (e % 64)) same) ∙ h
    ]
    | inr apart ↦ ap (λ w. bit_at w (e % 64)) (get_or-set_other words (c / 64) (e / 64) more 0 apart) ∙ h
  ]

-- ---- keys are put in, one behind the other
pub within_both : (k : Key → Bool) (xs ys : List Key) → AreWithin k xs → AreWithin k ys → AreWithin k (xs ++ ys)
within_both k [] ys first second = second
within_both k (x ∷ xs) ys first second = (first.0, within_both k xs ys first.1 second)

pub within_more : (k j : Key → Bool) (rises : (x : Key) → k x ≡ true → j x ≡ true) (xs : List Key) → AreWithin k xs → AreWithin j xs
within_more k j rises [] within = within
within_more k j rises (x ∷ xs) within = (rises x within.0, within_more k j rises xs within.1)

pub put_on : (a b c : List ℕ) (xs ys : List Key) → HasPutIn a b xs → HasPutIn b c ys → HasPutIn a c (xs ++ ys)
put_on a b c xs ys first second = record {
  stays = λ x h. second.stays x (first.stays x h);
  has = within_both (may_have c) xs ys (within_more (may_have b) (may_have c) second.stays xs first.has) second.has;
}

-- one key more of a list
pub put_next : (a b c : List ℕ) (keys : List Key) (i : ℕ) (d : Key) → i < length keys → HasPutIn a b (take i keys) → HasPutIn b c (get_or keys i d ∷ []) → HasPutIn a c (take (i + 1) keys)
put_next a b c keys i d within before now = subst (λ ks. HasPutIn a c ks) (sym (take_more keys i d within)) (put_on a b c (take i keys) (get_or keys i d ∷ []) before now)

-- what one thing more of many names
pub put_part : {A : Type 0} (f : A → List Key) (a b c : List ℕ) (xs : List A) (i : ℕ) (x : A) → i < length xs → x ≡ get_or xs i x → HasPutIn a b (flat_map f (take i xs)) → HasPutIn b c (f x) → HasPutIn a c (flat_map f (take (i + 1) xs))
put_part {A} f a b c xs i x within is before now =
    let last : flat_map f (get_or xs i x ∷ []) ≡ f x = ap (λ (y : A). flat_map f (y ∷ [])) (sym is) ∙ append-nil (f x) in
    let more : flat_map f (take (i + 1) xs) ≡ flat_map f (take i xs) ++ f x =
    ap (λ (ys : List A). flat_map f ys) (take_more xs i x within) ∙ flat_map-append f (take i xs) (get_or xs i x ∷ []) ∙ ap (λ (ks : List Key). flat_map f (take i xs) ++ ks) last in
    subst (λ ks. HasPutIn a c ks) (sym more) (put_on a b c (flat_map f (take i xs)) (f x) before now)

pub put_part_at : {A : Type 0} (f : A → List Key) (a b c : List ℕ) (xs : List A) (i : ℕ) (d : A) → i < length xs → HasPutIn a b (flat_map f (take i xs)) → HasPutIn b c (f (get_or xs i d)) → HasPutIn a c (flat_map f (take (i + 1) xs))
put_part_at {A} f a b c xs i d within before now =
    let more : flat_map f (take (i + 1) xs) ≡ flat_map f (take i xs) ++ f (get_or xs i d) =
    ap (λ (ys : List A). flat_map f ys) (take_more xs i d within) ∙ flat_map-append f (take i xs) (get_or xs i d ∷ []) ∙ ap (λ (ks : List Key). flat_map f (take i xs) ++ ks) (append-nil (f (get_or xs i d))) in
    subst (λ ks. HasPutIn a c ks) (sym more) (put_on a b c (flat_map f (take i xs)) (f (get_or xs i d)) before now)

-- what an event and a field name, one by one
abbrev pub event_keys : Event → List Key
event_keys e = Object (event_object e) ∷ []

abbrev pub field_keys : Field → List Key
field_keys f = map Handle (held_fields (f ∷ []))

pub all_events : (es : List Event) → flat_map event_keys es ≡ map Object (map event_object es)
all_events [] = refl
all_events (e ∷ es) = ap (λ ks. Object (event_object e) ∷ ks) (all_events es)

pub all_fields : (fs : List Field) → flat_map field_keys fs ≡ map Handle (held_fields fs)
all_fields [] = refl
all_fields (field.Held h ∷ fs) = ap (λ ks. Handle h ∷ ks) (all_fields fs)
all_fields (field.Null ∷ fs) = all_fields fs
all_fields (field.Me ∷ fs) = all_fields fs

pub put_nothing : (a : List ℕ) → HasPutIn a a []
put_nothing a = record { stays = λ x h. h; has = tt }

-- ---- two filters with no bit in common
few_classes : (x : Key) → class_of x < 2048
few_classes (Handle h) = omega arith
few_classes (Cell c) = omega arith
few_classes (Object o) = omega arith
few_classes (Scope t) = omega arith

module _ (a b : List ℕ) (apart : (j : ℕ) → j < 32 → bit_and (get_or a j 0) (get_or b j 0) ≡ 0) where
  pub have_none : (x : Key) → may_have a x ≡ true → may_have b x ≡ false
  have_none x here =
      let j : ℕ = class_of x / 64 in
      let i : ℕ = class_of x % 64 in
      let few : class_of x < 2048 = few_classes x in
      let both : min (bit_at (get_or a j 0) i) (bit_at (get_or b j 0) i) ≡ 0 = sym (bit_at_and (get_or a j 0) (get_or b j 0) i) ∙ ap (λ w. bit_at w i) (apart j (omega (arith, few))) ∙ bit_at-zero i in
      grind (arith, nat_tests, both, here)

-- where two filters have no key in common, a set whose keys one of them has has none of the keys that the other one has
pub none_among : (others filter : List ℕ) (d : KeySet) → ((x : Key) → may_have others x ≡ true → may_have filter x ≡ false) → ((x : Key) → is_among d x ≡ true → may_have filter x ≡ true)
    → (keys : List Key) → AreWithin (may_have others) keys → list_any (is_among d) keys ≡ false
none_among others filter d apart within [] _ = refl
none_among others filter d apart within (x ∷ keys) has = ap (λ t. t || list_any (is_among d) keys) (out (is_among d x) refl) ∙ none_among others filter d apart within keys has.1
  where
    out : (t : Bool) → is_among d x ≡ t → is_among d x ≡ false
    out true e = absurd (clash (may_have filter x) (within x e) (apart x has.0))
    out false e = e
