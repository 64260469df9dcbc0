-- The leaves of a node after a change at one of its places.
use Rattle.std.proofs.Common.{◌≡◌, ℕ, zero, suc, ◌<◌, ◌≤◌, ◌+◌, ◌-◌, inl, inr, cond, List, [], ◌∷◌, ◌++◌, length, get_or, set, take, drop, append_assoc, sym, ap, subst, ◌∙◌, arith, nat_eq, eq-eqb}
use Rattle.std.specs.Prelude.{Option, Some, None}
use Rattle.std.specs.List.{swap_remove, sum_by}
use Rattle.std.specs.Arc.{arc_value}
use Rattle.std.specs.declared.sync.Arc.{Arc}
use Rattle.std.proofs.lemmas.Bool.{cases_eq, ne_eqb}
use Rattle.std.proofs.lemmas.List.{get_or-map, get_or_past, length-map, length-set, map-append, map-set, set_split, take-map}
use Rattle.share_tree.specs.declared.leaf.Leaf.{Leaf}
use Rattle.share_tree.specs.Digits.{updated, child_of, HasChild}
use Rattle.share_tree.specs.LeafNodes.{places_of, values_of, IsOrder}
use Rattle.share_tree.proofs.LeafNodeLemmas.{at_most, free, is_free, all_free, room, at_place, replaced, added, taken}

module _ {V Z : Type 0} where
  abbrev pub value : Arc (Leaf V) Z → Option V
  value l = Some (arc_value {X = Leaf V} l).value

  -- the leaf of an index is there
  pub there_is : (leaves : List (Arc (Leaf V) Z)) (i : ℕ) (l : Arc (Leaf V) Z) → i < length leaves → child_of (values_of leaves) i ≡ value (get_or leaves i l)
  there_is leaves i l lt = get_or-map value leaves i l None lt

  is_none : (leaves : List (Arc (Leaf V) Z)) (i : ℕ) → child_of (values_of leaves) i ≡ None → length leaves ≤ i
  is_none [] i h = omega arith
  is_none (l ∷ ls) zero h = absurd (grind (arith, h))
  is_none (l ∷ ls) (suc i) h = let le : length ls ≤ i = is_none ls i h in omega (arith, le)

  module _ (order : List ℕ) (leaves : List (Arc (Leaf V) Z)) (h : IsOrder order (length leaves)) (p : ℕ) (fits : p < 16) where
    h_values : IsOrder order (length (values_of leaves))
    h_values = subst (IsOrder order) (sym (length-map leaves value)) h

    few : length (values_of leaves) ≤ 16
    few = at_most order (length (values_of leaves)) h_values

    pub leaf_replaced : (l : Arc (Leaf V) Z) → get_or order p 255 < length leaves → (q : ℕ)
        → child_of (places_of order (values_of (set leaves (get_or order p 255) l))) q ≡ updated (child_of (places_of order (values_of leaves))) p (value l) q
    leaf_replaced l there q =
        ap (λ vs. child_of (places_of order vs) q) (map-set value leaves (get_or order p 255) l)
        ∙ replaced order (values_of leaves) h_values p fits (value l) (omega (arith, length-map leaves value, there)) q

    pub leaf_none : child_of (places_of order (values_of leaves)) p ≡ None → length leaves ≤ get_or order p 255
    leaf_none none = is_none leaves (get_or order p 255) (sym (at_place order (values_of leaves) few p) ∙ none)

    pub leaf_room : child_of (places_of order (values_of leaves)) p ≡ None → length leaves < 16
    leaf_room none = room order (length leaves) h p fits (leaf_none none)

    pub leaf_added : (l : Arc (Leaf V) Z) → length leaves < 16 → (q : ℕ)
        → child_of (places_of (set order p (length leaves)) (values_of (leaves ++ l ∷ []))) q ≡ updated (child_of (places_of order (values_of leaves))) p (value l) q
    leaf_added l room q =
        ap (λ vs. child_of (places_of (set order p (length leaves)) vs) q) (map-append value leaves (l ∷ []))
        ∙ ap (λ n. child_of (places_of (set order p n) (values_of leaves ++ value l ∷ [])) q) (sym (length-map leaves value))
        ∙ added order (values_of leaves) h_values p fits (value l) (omega (arith, length-map leaves value, room)) q

    pub leaf_taken : (named : List ℕ) (l : Arc (Leaf V) Z) → length named ≡ 16 → get_or order p 255 < length leaves
        → ((q : ℕ) → q < 16 → get_or named q 255 ≡ cond (nat_eq (get_or order q 255) (length leaves - 1)) (get_or order p 255) (get_or order q 255)) → (q : ℕ)
        → child_of (places_of (set named p 255) (values_of (swap_remove leaves (get_or order p 255) l))) q ≡ updated (child_of (places_of order (values_of leaves))) p None q
    leaf_taken named l long there renamed q =
        let n : ℕ = length leaves in
        let same : length (values_of leaves) ≡ n = length-map leaves value in
        ap (λ vs. child_of (places_of (set named p 255) vs) q) (
        sym (take-map value (n - 1) (set leaves (get_or order p 255) (get_or leaves (n - 1) l)))
        ∙ ap (take (n - 1)) (map-set value leaves (get_or order p 255) (get_or leaves (n - 1) l) ∙ ap (set (values_of leaves) (get_or order p 255)) (sym (get_or-map value leaves (n - 1) l None (omega (arith, there)))))
        ∙ ap (λ m. take (m - 1) (set (values_of leaves) (get_or order p 255) (get_or (values_of leaves) (m - 1) None))) (sym same))
        ∙ taken order named (values_of leaves) h_values long p fits (omega (arith, same, there))
        (λ r f. renamed r f ∙ ap (λ m. cond (nat_eq (get_or order r 255) (m - 1)) (get_or order p 255) (get_or order r 255)) (sym same)) q

    -- the place of a leaf has its value
    pub leaf_there : (old : Arc (Leaf V) Z) → get_or order p 255 < length leaves → old ≡ get_or leaves (get_or order p 255) old → child_of (places_of order (values_of leaves)) p ≡ value old
    leaf_there old there read =
        at_place order (values_of leaves) few p ∙ there_is leaves (get_or order p 255) old there ∙ ap value (sym read)

    -- another leaf of the same value changes nothing
    pub leaf_rewritten : (old l : Arc (Leaf V) Z) → get_or order p 255 < length leaves → old ≡ get_or leaves (get_or order p 255) old → (arc_value {X = Leaf V} l).value ≡ (arc_value {X = Leaf V} old).value → (q : ℕ)
        → child_of (places_of order (values_of (set leaves (get_or order p 255) l))) q ≡ child_of (places_of order (values_of leaves)) q
    leaf_rewritten old l there read same q =
        leaf_replaced l there q
        ∙ ap (λ o. updated (child_of (places_of order (values_of leaves))) p o q) (ap Some same ∙ sym (leaf_there old there read))
        ∙ elim (cases_eq q p) [
          | inl e ↦ ap (λ b. cond b (child_of (places_of order (values_of leaves)) p) (child_of (places_of order (values_of leaves)) q)) (eq-eqb q p e) ∙ ap (child_of (places_of order (values_of leaves))) (sym e)
          | inr ne ↦ ap (λ b. cond b (child_of (places_of order (values_of leaves)) p) (child_of (places_of order (values_of leaves)) q)) (ne_eqb q p ne)
        ]

  -- where a leaf is there, not every place is without one
  pub has_leaf : (order : List ℕ) (leaves : List (Arc (Leaf V) Z)) → IsOrder order (length leaves) → 0 < length leaves → HasChild (places_of order (values_of leaves))
  has_leaf order leaves h some none =
      let long : length order ≡ 16 = h.long in
      let full : sum_by is_free order + length leaves ≡ 16 = h.full in
      let all : sum_by is_free order ≡ length order = all_free order (λ k lt. let fits : k < 16 = omega (arith, lt, long) in free order (length leaves) h k fits (leaf_none order leaves h k fits (none k))) in
      absurd (omega (arith, long, full, all, some))

  -- without leaves there is nothing
  pub no_leaf : (order : List ℕ) (leaves : List (Arc (Leaf V) Z)) → length leaves ≡ 0 → (q : ℕ) → child_of (places_of order (values_of leaves)) q ≡ None
  no_leaf order leaves none q =
      let same : length (values_of leaves) ≡ length leaves = length-map leaves value in
      at_place order (values_of leaves) (omega (arith, same, none)) q ∙ get_or_past (values_of leaves) (get_or order q 255) None (omega (arith, same, none))

module _ {V Z : Type 0} (order : List ℕ) (leaves : List (Arc (Leaf V) Z)) (h : IsOrder order (length leaves)) (p : ℕ) (fits : p < 16) (leaf : Arc (Leaf V) Z) (there : get_or order p 255 < length leaves) where
  abbrev pub at : ℕ
  at = get_or order p 255

  -- the leaves before that of a place, another one, and those behind it are what a write leaves
  leaf_split : (all : List (Arc (Leaf V) Z)) → values_of all ≡ (values_of (take at leaves) ++ value leaf ∷ []) ++ values_of (drop (at + 1) leaves) → values_of (set leaves at leaf) ≡ values_of all
  leaf_split all e =
      let next : suc at ≡ at + 1 = omega arith in
      ap values_of (set_split leaves at leaf there)
      ∙ map-append value (take at leaves) (leaf ∷ drop (suc at) leaves)
      ∙ ap (λ k. values_of (take at leaves) ++ value leaf ∷ values_of (drop k leaves)) next
      ∙ sym (append_assoc (values_of (take at leaves)) (value leaf ∷ []) (values_of (drop (at + 1) leaves)))
      ∙ sym e

  pub leaf_between-length : (all : List (Arc (Leaf V) Z)) → values_of all ≡ (values_of (take at leaves) ++ value leaf ∷ []) ++ values_of (drop (at + 1) leaves) → length all ≡ length leaves
  leaf_between-length all e = sym (length-map all value) ∙ ap length (sym (leaf_split all e)) ∙ length-map (set leaves at leaf) value ∙ length-set leaves at leaf

  pub leaf_between : (all : List (Arc (Leaf V) Z)) → values_of all ≡ (values_of (take at leaves) ++ value leaf ∷ []) ++ values_of (drop (at + 1) leaves) → (q : ℕ)
      → child_of (places_of order (values_of all)) q ≡ updated (child_of (places_of order (values_of leaves))) p (value leaf) q
  leaf_between all e q = ap (λ values. child_of (places_of order values) q) (sym (leaf_split all e)) ∙ leaf_replaced order leaves h p fits leaf there q
