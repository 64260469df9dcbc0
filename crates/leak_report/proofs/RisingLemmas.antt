-- Numbers that rise.
use Rattle.std.proofs.Common.{◌≡◌, ◌∙◌, ℕ, zero, suc, ◌+◌, ◌-◌, ◌<◌, List, [], ◌∷◌, ◌++◌, length, get_or, take, refl, sym, ap, arith, inl, inr}
use Rattle.std.specs.Ordering.{nat_cmp, match_ordering, ordering_reverse}
use Rattle.std.specs.BTreeSet.{insert_key}
use Rattle.std.specs.Cmp.{IsTotalOrder, nat_cmp_total}
use Rattle.std.specs.List.Sorted.{IsStrictlySortedBy}
use Rattle.std.proofs.lemmas.List.{get_or_append_left, length-append, take_all}
use Rattle.std.proofs.Math.Seq.{get_or-append_seam, take-append_seam}
use Rattle.std.proofs.lemmas.Map.Keys.{Less-from_sorted, sorted_tail, sorted_from_strictly_increasing, IsStrictlyIncreasing-from_sorted}
use Rattle.std.proofs.lemmas.Bool.{cases_lt}

pub rising-none : IsStrictlySortedBy nat_cmp []
rising-none = sorted_from_strictly_increasing [] (λ i within. absurd (omega (arith, within)))

-- numbers go on rising with one above the last
pub rising-append : (ks : List ℕ) (k : ℕ) → IsStrictlySortedBy nat_cmp ks → (0 < length ks → get_or ks (length ks - 1) 0 < k) → IsStrictlySortedBy nat_cmp (ks ++ k ∷ [])
rising-append ks k sorted last = sorted_from_strictly_increasing (ks ++ k ∷ []) (λ i within.
    elim (cases_lt (i + 1) (length ks)) [
      | inl old ↦ rw (get_or_append_left ks (k ∷ []) 0 (i + 1) old, get_or_append_left ks (k ∷ []) 0 i (omega (arith, old))) (IsStrictlyIncreasing-from_sorted ks sorted i old)
      | inr new ↦ (let seam : i + 1 ≡ length ks = omega (arith, within, new, length-append ks (k ∷ [])) in
          let before : i ≡ length ks - 1 = omega (arith, seam) in
          rw (seam, get_or-append_seam ks k [] 0, get_or_append_left ks (k ∷ []) 0 i (omega (arith, seam)), before) (last (omega (arith, seam))))
    ])

-- each number of a list that rises goes behind those before it
pub insert_key-next : (ks : List ℕ) (i : ℕ) → IsStrictlySortedBy nat_cmp ks → i < length ks → insert_key nat_cmp (take i ks) (get_or ks i 0) ≡ take (suc i) ks
insert_key-next [] i sorted within = absurd (omega (arith, within))
insert_key-next (x ∷ ks) zero sorted within = refl
insert_key-next (x ∷ ks) (suc i) sorted within =
    let k = get_or ks i 0 in
    let above = IsTotalOrder.antisymm nat_cmp_total k x ∙ ap ordering_reverse (Less-from_sorted nat_cmp (x ∷ ks) 0 (suc i) 0 sorted (omega arith) within) in
    ap (λ o. match_ordering o (k ∷ x ∷ take i ks) (x ∷ take i ks) (x ∷ insert_key nat_cmp (take i ks) k)) above
    ∙ ap (λ l. x ∷ l) (insert_key-next ks i (sorted_tail nat_cmp x ks sorted) (omega (arith, within)))

pub insert_key-last : (ks : List ℕ) (k : ℕ) → IsStrictlySortedBy nat_cmp (ks ++ k ∷ []) → insert_key nat_cmp ks k ≡ ks ++ k ∷ []
insert_key-last ks k sorted =
    let all = ks ++ k ∷ [] in
    ap (λ l. insert_key nat_cmp l k) (sym (take-append_seam ks (k ∷ [])))
    ∙ ap (insert_key nat_cmp (take (length ks) all)) (sym (get_or-append_seam ks k [] 0))
    ∙ insert_key-next all (length ks) sorted (omega (arith, length-append ks (k ∷ [])))
    ∙ take_all (suc (length ks)) all (omega (arith, length-append ks (k ∷ [])))
