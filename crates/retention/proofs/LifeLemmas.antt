-- The marks of one object among those of all.
use Rattle.std.proofs.Common.{◌≡◌, ℕ, ◌<◌, ◌+◌, List, [], ◌∷◌, ◌++◌, refl, ap, ap₂, ◌∙◌, sym, subst, arith, cond, take, drop, length, length-take, length-drop, get_or, get_or-take, get_or-drop, take-append-drop, append-nil, ltb, leb, not}
use Rattle.std.specs.Prelude.{Bool, true, false, ◌==◌, ◌&&◌}
use Rattle.std.specs.Ordering.{nat_cmp, is_lt}
use Rattle.std.specs.List.{All, AllWithin}
use Rattle.std.specs.List.Sorted.{ties, IsStableBy, IsPartitionPoint}
use Rattle.std.proofs.lemmas.Bool.Decides.{nat_tests}
use Rattle.std.proofs.lemmas.List.Elements.{filter_agree, filter-append, All-head, All-tail, All-take, All-weaker}
use Rattle.retention_model.specs.declared.mark.Marked.{Marked}
use Rattle.retention_model.specs.Turns.{marks_of}

-- A stable sort by the object keeps the marks of each.

tie : (a b : ℕ) → (not (is_lt (nat_cmp a b)) && not (is_lt (nat_cmp b a))) ≡ (b == a)
tie a b = grind (arith, nat_tests)

tied : (x y : Marked) → ties (λ (x y : Marked). is_lt (nat_cmp x.object y.object)) x y ≡ (y.object == x.object)
tied x y = tie x.object y.object

-- z is a mark of the object
pub marks_sorted : (xs ys : List Marked) → IsStableBy (λ (x y : Marked). is_lt (nat_cmp x.object y.object)) xs ys → (z : Marked) → marks_of z.object ys ≡ marks_of z.object xs
marks_sorted xs ys stable z =
    let agree = filter_agree (ties (λ (x y : Marked). is_lt (nat_cmp x.object y.object)) z) (λ (y : Marked). y.object == z.object) (tied z) in
    sym (agree ys) ∙ stable z ∙ agree xs

-- Where they stand.

module _ (o : ℕ) where
  keep : (x : Marked) (xs : List Marked) (b : Bool) → (x.object == o) ≡ b → marks_of o (x ∷ xs) ≡ cond b (x ∷ marks_of o xs) (marks_of o xs)
  keep x xs b e = ap (λ c. cond c (x ∷ marks_of o xs) (marks_of o xs)) e

  pub none_of : (xs : List Marked) → All (λ x. (x.object == o) ≡ false) xs → marks_of o xs ≡ []
  none_of [] apart = refl
  none_of (x ∷ xs) apart = keep x xs false (All-head (λ (x : Marked). (x.object == o) ≡ false) x xs apart) ∙ none_of xs (All-tail (λ (x : Marked). (x.object == o) ≡ false) x xs apart)

  pub all_of : (xs : List Marked) → All (λ x. (x.object == o) ≡ true) xs → marks_of o xs ≡ xs
  all_of [] own = refl
  all_of (x ∷ xs) own = keep x xs true (All-head (λ (x : Marked). (x.object == o) ≡ true) x xs own) ∙ ap (λ l. x ∷ l) (all_of xs (All-tail (λ (x : Marked). (x.object == o) ≡ true) x xs own))

  -- three stretches
  pub in_the_middle : (xs : List Marked) (s e : ℕ) → All (λ x. (x.object == o) ≡ false) (take s xs)
      → All (λ x. (x.object == o) ≡ true) (take e (drop s xs)) → All (λ x. (x.object == o) ≡ false) (drop e (drop s xs))
      → take e (drop s xs) ≡ marks_of o xs
  in_the_middle xs s e before own behind =
      sym (ap (marks_of o) (sym (take-append-drop s xs)) ∙ filter-append (λ (x : Marked). x.object == o) (take s xs) (drop s xs)
      ∙ ap (λ l. l ++ marks_of o (drop s xs)) (none_of (take s xs) before)
      ∙ ap (marks_of o) (sym (take-append-drop e (drop s xs))) ∙ filter-append (λ (x : Marked). x.object == o) (take e (drop s xs)) (drop e (drop s xs))
      ∙ ap₂ (λ k l. k ++ l) (all_of (take e (drop s xs)) own) (none_of (drop e (drop s xs)) behind)
      ∙ append-nil (take e (drop s xs)))

-- what stands before a place of a list, and from it on
within_take : (P : Marked → Type 0) (xs : List Marked) (s : ℕ) → AllWithin P xs 0 s → All P (take s xs)
within_take P xs s all k d lt =
    let below : k < s = omega (arith, length-take s xs) in
    subst P (sym (get_or-take s xs k d below)) (all k d (omega arith) below)

within_drop : (P : Marked → Type 0) (xs : List Marked) (s : ℕ) → AllWithin P xs s (length xs) → All P (drop s xs)
within_drop P xs s all k d lt = subst P (sym (get_or-drop s xs k d)) (all (s + k) d (omega arith) (omega (arith, length-drop s xs)))

below_apart : (a o : ℕ) → ltb a o ≡ true → (a == o) ≡ false
below_apart a o e = grind (arith, nat_tests)

above_apart : (a o : ℕ) → leb a o ≡ false → (a == o) ≡ false
above_apart a o e = grind (arith, nat_tests)

between_same : (a o : ℕ) → ltb a o ≡ false → leb a o ≡ true → (a == o) ≡ true
between_same a o e f = grind (arith, nat_tests)

-- the stretch that two searches find
pub life_found : (o : ℕ) (xs : List Marked) (s e : ℕ)
    → IsPartitionPoint (λ y. ltb y.object o ≡ true) (λ y. ltb y.object o ≡ false) xs s
    → IsPartitionPoint (λ y. leb y.object o ≡ true) (λ y. leb y.object o ≡ false) (drop s xs) e
    → take e (drop s xs) ≡ marks_of o xs
life_found o xs s e first second =
    let above = All-take (λ (y : Marked). ltb y.object o ≡ false) e (drop s xs) (within_drop (λ (y : Marked). ltb y.object o ≡ false) xs s first.1) in
    let upto = within_take (λ (y : Marked). leb y.object o ≡ true) (drop s xs) e second.0 in
    in_the_middle o xs s e
    (All-weaker (λ (y : Marked). ltb y.object o ≡ true) (λ (y : Marked). (y.object == o) ≡ false) (λ y is. below_apart y.object o is) (take s xs)
    (within_take (λ (y : Marked). ltb y.object o ≡ true) xs s first.0))
    (λ k d lt. between_same (get_or (take e (drop s xs)) k d).object o (above k d lt) (upto k d lt))
    (All-weaker (λ (y : Marked). leb y.object o ≡ false) (λ (y : Marked). (y.object == o) ≡ false) (λ y is. above_apart y.object o is) (drop e (drop s xs))
    (within_drop (λ (y : Marked). leb y.object o ≡ false) (drop s xs) e second.1))
