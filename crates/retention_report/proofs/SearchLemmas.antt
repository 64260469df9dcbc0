-- The search for the life of an object among lives that rise.
use Rattle.std.proofs.Common.{◌≡◌, ◌∙◌, ℕ, suc, ◌<◌, ◌≤◌, List, [], ◌∷◌, length, get_or, Result, Ok, Err, false, refl, sym, ap, subst, arith, inl, inr}
use Rattle.std.specs.Prelude.{◌==◌, ◌||◌, Option, slice_index_or, MatchOption}
use Rattle.std.specs.Result.{result_ok}
use Rattle.std.specs.Ordering.{nat_cmp, ordering_index}
use Rattle.std.specs.List.Sorted.{IsBinarySearchResult, IsSearchInRange, IsNonDecreasingBy}
use Rattle.std.proofs.lemmas.Cmp.{ranked}
use Rattle.std.proofs.lemmas.List.Sorted.{IsNonDecreasingBy-from_default}
use Rattle.std.proofs.lemmas.Bool.{cases_lt}
use Rattle.std.proofs.lemmas.Bool.Decides.{nat_tests}
use Rattle.ownership_model.specs.Reach.{has}
use Rattle.leak_report.specs.declared.lives.Life.{Life}
use Rattle.leak_report.specs.Told.{HasRisingObjects, HasNone}
use Rattle.retention_report.specs.Sources.{objects_of}

-- an object that none of the lives is of
none_has : (o : ℕ) (ls : List Life) → HasNone o ls → has o (objects_of ls) ≡ false
none_has o [] none = refl
none_has o (l ∷ ls) none =
    let apart : l.object ≡ o → ⊥ = none 0 l (omega arith) in
    let other : (l.object == o) ≡ false = grind (arith, nat_tests, apart) in
    ap (λ b. b || has o (objects_of ls)) other ∙ none_has o ls (λ i d within. none (suc i) d (omega (arith, within)))

module _ (o : ℕ) (ls : List Life) (rising : HasRisingObjects ls) where
  comparisons_rise : Life → IsNonDecreasingBy (λ l. ordering_index (nat_cmp l.object o)) ls
  comparisons_rise d = IsNonDecreasingBy-from_default (λ l. ordering_index (nat_cmp l.object o)) ls d (λ i j le within.
      let objects_rise : (get_or ls i d).object ≤ (get_or ls j d).object = grind (arith, rising i j d, λ (same : i ≡ j). ap (λ k. (get_or ls k d).object) same) in
      grind (arith, nat_tests))

  found : (i : ℕ) (d : Life) → i < length ls → IsBinarySearchResult (λ l. nat_cmp l.object o) ls (Ok i) → (get_or ls i d).object ≡ o
  found i d within equal = ranked _ o _ (sym (equal d))

  missed : (i : ℕ) → IsBinarySearchResult (λ l. nat_cmp l.object o) ls (Err i) → HasNone o ls
  missed i parted j e is_within is = elim (cases_lt j i) [
    | inl before ↦ omega (arith, ranked _ o _ (sym ((parted (comparisons_rise e)).0 j e (omega arith) before)), is)
    | inr behind ↦ omega (arith, ranked _ o _ (sym ((parted (comparisons_rise e)).1 j e behind is_within)), is)
  ]

-- what a binary search finds
pub placed : (o : ℕ) (ls : List Life) (r : Result ℕ ℕ) (place : Option ℕ) → HasRisingObjects ls → place ≡ result_ok r → IsSearchInRange r (length ls) → IsBinarySearchResult (λ l. nat_cmp l.object o) ls r
    → MatchOption place (has o (objects_of ls) ≡ false) (λ i. (i < length ls) × ((d : Life) → (slice_index_or ls i d).object ≡ o))
placed o ls (Ok i) place rising is within equal = subst (λ p. MatchOption p (has o (objects_of ls) ≡ false) (λ i. (i < length ls) × ((d : Life) → (slice_index_or ls i d).object ≡ o))) (sym is) (within, λ d. found o ls rising i d within equal)
placed o ls (Err i) place rising is within parted = subst (λ p. MatchOption p (has o (objects_of ls) ≡ false) (λ i. (i < length ls) × ((d : Life) → (slice_index_or ls i d).object ≡ o))) (sym is) (none_has o ls (missed o ls rising i parted))
