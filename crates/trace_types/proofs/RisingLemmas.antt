-- Where operations with rising numbers stand.
use Rattle.std.proofs.Common.{◌≡◌, ◌∙◌, ℕ, zero, suc, ◌+◌, ◌<◌, ◌≤◌, List, [], ◌∷◌, ◌++◌, length, get_or, Option, Some, None, Result, Ok, Err, refl, sym, ap, subst, ◌-◌, arith, inl, inr}
use Rattle.std.specs.Prelude.{◌==◌}
use Rattle.std.specs.List.{position_from}
use Rattle.std.specs.List.Sorted.{IsBinarySearchResult, IsSearchInRange, IsNonDecreasingBy}
use Rattle.std.specs.Ordering.{nat_cmp, ordering_index}
use Rattle.std.specs.Result.{result_ok}
use Rattle.std.proofs.lemmas.Cmp.{ranked}
use Rattle.std.proofs.lemmas.List.{get_or_append_left, length-append}
use Rattle.std.proofs.Math.Seq.{get_or-append_seam}
use Rattle.std.proofs.lemmas.List.Sorted.{IsNonDecreasingBy-from_default}
use Rattle.std.proofs.lemmas.Bool.{cases_lt}
use Rattle.std.proofs.lemmas.Bool.Decides.{nat_tests}
use Rattle.trace_types.specs.Operation.{Operation}
use Rattle.std.specs.BTreeMap.{BTreeMap}
use Rattle.trace_types.specs.Trace.{place_of, IsNew}
use Rattle.trace_types.specs.Places.{HasRisingNumbers, AreBelow, ArePlaces, ArePlacesWith}
use Rattle.trace_types.proofs.PlaceLemmas.{placed}

-- a number that no operation has
absent_from : (id n : ℕ) (ops : List Operation) → ((i : ℕ) (d : Operation) → i < length ops → (get_or ops i d).id ≡ id → ⊥) → position_from (λ op. op.id == id) n ops ≡ None
absent_from id n [] misses = refl
absent_from id n (op ∷ ops) misses = grind (arith, nat_tests, misses 0 op (omega arith), absent_from id (n + 1) ops (λ i d within. misses (suc i) d (omega arith)))

-- and one that an operation has, and none before it
found_from : (id n : ℕ) (ops : List Operation) (i : ℕ) (d : Operation) → i < length ops → (get_or ops i d).id ≡ id
    → ((j : ℕ) → j < i → (get_or ops j d).id ≡ id → ⊥) → position_from (λ op. op.id == id) n ops ≡ Some (n + i)
found_from id n [] i d within is misses = absurd (omega arith)
found_from id n (op ∷ ops) zero d within is misses = grind (arith, nat_tests)
found_from id n (op ∷ ops) (suc i) d within is misses =
    let rest = found_from id (n + 1) ops i d (omega arith) is (λ j before. misses (suc j) (omega arith)) in
    grind (arith, nat_tests, misses 0 (omega arith), rest)

-- the last is the greatest
pub below-last : (id : ℕ) (ops : List Operation) → HasRisingNumbers ops → ((d : Operation) → (get_or ops (length ops - 1) d).id < id) → AreBelow id ops
below-last id ops rising last i d within = elim (cases_lt i (length ops - 1)) [
  | inl before ↦ omega (arith, rising i (length ops - 1) d before (omega arith), last d)
  | inr at ↦ (let same : i ≡ length ops - 1 = omega arith in rw same (last d))
]

-- a number above all of them is none of them
pub absent-above : (id : ℕ) (ops : List Operation) → AreBelow id ops → place_of id ops ≡ None
absent-above id ops below = absent_from id 0 ops (λ i d within is. omega (arith, below i d within, is))

module _ (id : ℕ) (ops : List Operation) (rising : HasRisingNumbers ops) where
  comparisons_rise : Operation → IsNonDecreasingBy (λ op. ordering_index (nat_cmp op.id id)) ops
  comparisons_rise d = IsNonDecreasingBy-from_default (λ op. ordering_index (nat_cmp op.id id)) ops d (λ i j le within.
      let numbers_rise : (get_or ops i d).id ≤ (get_or ops j d).id = grind (arith, rising i j d, λ (same : i ≡ j). ap (λ k. (get_or ops k d).id) same) in
      grind (arith, nat_tests))

  searched_beside : (r : Result ℕ ℕ) → Operation → IsSearchInRange r (length ops) → IsBinarySearchResult (λ op. nat_cmp op.id id) ops r → result_ok r ≡ place_of id ops
  searched_beside (Ok i) d within equal = sym (subst (λ k. position_from (λ op. op.id == id) 0 ops ≡ Some k) {x = 0 + i} (omega arith) (found_from id 0 ops i d within (ranked _ id _ (sym (equal d))) (λ j before is. omega (arith, rising j i d before within, ranked _ id _ (sym (equal d)), is))))
  searched_beside (Err i) d within parted = sym (absent_from id 0 ops (λ j e is_within is. elim (cases_lt j i) [
    | inl before ↦ omega (arith, ranked _ id _ (sym ((parted (comparisons_rise d)).0 j e (omega arith) before)), is)
    | inr behind ↦ omega (arith, ranked _ id _ (sym ((parted (comparisons_rise d)).1 j e behind is_within)), is)
  ]))

-- what a binary search answers is the place
pub searched : (id : ℕ) (ops : List Operation) (r : Result ℕ ℕ) → HasRisingNumbers ops → IsSearchInRange r (length ops) → IsBinarySearchResult (λ op. nat_cmp op.id id) ops r → result_ok r ≡ place_of id ops
searched id [] (Ok i) rising within found = absurd (omega (arith, within))
searched id [] (Err i) rising within found = refl
searched id (op ∷ ops) r rising within found = searched_beside id (op ∷ ops) rising r op within found

-- numbers go on rising with one above all of them
pub rising-append : (ops : List Operation) (op : Operation) → HasRisingNumbers ops → AreBelow op.id ops → HasRisingNumbers (ops ++ op ∷ [])
rising-append ops op rising below i j d before within =
    elim (cases_lt j (length ops)) [
      | inl old ↦ rw (get_or_append_left ops (op ∷ []) d j old, get_or_append_left ops (op ∷ []) d i (omega (arith, before, old))) (rising i j d before old)
      | inr new ↦ (let last : j ≡ length ops = omega (arith, within, new, length-append ops (op ∷ [])) in
          rw (last, get_or-append_seam ops op [] d, get_or_append_left ops (op ∷ []) d i (omega (arith, before, last))) (below i d (omega (arith, before, last))))
    ]

-- what is kept of the places, once the operation stands there
pub places-append : (ops : List Operation) (op : Operation) (places : Option (BTreeMap ℕ ℕ)) → IsNew op.id ops → ArePlacesWith op.id places ops → ArePlaces places (ops ++ op ∷ [])
places-append ops op None new (rising, below) = rising-append ops op rising below
places-append ops op (Some m) new tells = λ id. tells id ∙ sym (placed id ops op new)
