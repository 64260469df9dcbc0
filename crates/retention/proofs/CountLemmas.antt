-- Counts of what was gone through.
use Rattle.std.proofs.Common.{◌≡◌, ℕ, ◌+◌, ◌<◌, ◌≤◌, min, List, [], ◌∷◌, ◌++◌, length, get_or, set, take, refl, sym, ap, ◌∙◌, subst, arith, Bool, true, false, length-append, length-set, length-take, get_or-set_same, get_or-set_other}
use Rattle.std.specs.Prelude.{◌==◌, ◌↔◌}
use Rattle.std.specs.List.{count_by}
use Rattle.std.proofs.lemmas.List.{get_or_append_left, get_or_push}
use Rattle.std.proofs.lemmas.List.Sums.{count_by-le-length, count_by_more_yes, count_by_more_no}
use Rattle.retention.proofs.WalkSteps.{same_number, by_number, apart_number}
use Rattle.ownership_model.specs.Reach.{has}
use Rattle.retention.proofs.PathLemmas.{at_has}
use Rattle.retention.proofs.LayoutLemmas.{other_way}

pub count_taken : (test : ℕ → Bool) (xs : List ℕ) (k : ℕ) → count_by test (take k xs) ≤ k
count_taken test xs k =
    let count : count_by test (take k xs) ≤ length (take k xs) = count_by-le-length test (take k xs) in
    let taken : length (take k xs) ≡ min k (length xs) = length-take k xs in
    omega (arith, count, taken)

-- the counts of all numbers, with one more gone through
pub counted_more : (xs sizes : List ℕ) (k p v : ℕ) → k < length xs → get_or xs k 0 ≡ p → p < length xs → v ≡ get_or sizes p 0 → length sizes ≡ length xs
    → ((i : ℕ) → i < length xs → get_or sizes i 0 ≡ count_by (λ x. x == i) (take k xs))
    → (length (set sizes p (v + 1)) ≡ length xs) × ((i : ℕ) → i < length xs → get_or (set sizes p (v + 1)) i 0 ≡ count_by (λ x. x == i) (take (k + 1) xs))
counted_more xs sizes k p v h at inside is long each = (
  length-set sizes p (v + 1) ∙ long,
  λ i l. by_number (λ x. x < length xs → get_or (set sizes p (v + 1)) x 0 ≡ count_by (λ y. y == x) (take (k + 1) xs)) p i
      (λ t. get_or-set_same sizes p (v + 1) 0 (subst (λ n. p < n) (sym long) inside) ∙ ap (λ n. n + 1) (is ∙ each p t)
      ∙ sym (count_by_more_yes (λ y. y == p) xs k 0 h (subst (λ y. (y == p) ≡ true) (sym at) (same_number p))))
      (λ e t. get_or-set_other sizes p i (v + 1) 0 (apart_number i p e) ∙ each i t
      ∙ sym (count_by_more_no (λ y. y == i) xs k 0 h (subst (λ y. (y == i) ≡ false) (sym at) (other_way i p e)))) l,
)

-- one more of a list of tests
pub tested_more : (P : ℕ → Type 0) (bs : List Bool) (k : ℕ) (b : Bool) → length bs ≡ k → ((i : ℕ) → i < k → (get_or bs i false ≡ true) ↔ P i) → (b ≡ true) ↔ P k
    → (length (bs ++ b ∷ []) ≡ k + 1) × ((i : ℕ) → i < k + 1 → (get_or (bs ++ b ∷ []) i false ≡ true) ↔ P i)
tested_more P bs k b long all this =
    let one : length (bs ++ b ∷ []) ≡ length bs + 1 = length-append bs (b ∷ []) in (
      omega (arith, one, long),
      λ i h. by_number (λ x. (get_or (bs ++ b ∷ []) x false ≡ true) ↔ P x) k i (subst (λ v. (v ≡ true) ↔ P k) (sym (get_or_push bs b false k long)) this)
          (λ e. let below : i < k = (let apart : i ≡ k → ⊥ = apart_number i k e in omega (arith, apart, h)) in
          subst (λ v. (v ≡ true) ↔ P i) (sym (get_or_append_left bs (b ∷ []) false i (omega (arith, below, long)))) (all i below)),
    )

not_there : (b : Bool) → (b ≡ true → ⊥) → b ≡ false
not_there true h = absurd (h refl)
not_there false h = refl

pub none_has : (xs : List ℕ) (x : ℕ) → ((k : ℕ) → k < length xs → get_or xs k 0 ≡ x → ⊥) → has x xs ≡ false
none_has xs x none = not_there (has x xs) (λ h. let it = at_has xs x h in none it.0 it.1 it.2)
