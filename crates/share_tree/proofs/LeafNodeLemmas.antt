-- A node over leaves after a change at one of its places.
use Rattle.std.proofs.Common.{◌≡◌, ◌≢◌, ℕ, ◌<◌, ◌≤◌, ◌+◌, ◌-◌, suc, inl, inr, cond, List, [], ◌∷◌, ◌++◌, length, get_or, set, take, map, sym, ap, ◌∙◌, refl, arith, nat_eq, eq-eqb, get_or-set_other, get_or-set_same}
use Rattle.std.specs.Prelude.{Option, None, ◌⊎◌, count_by}
use Rattle.std.proofs.lemmas.Bool.{cases_eq, cases_lt, ne_eqb}
use Rattle.std.proofs.lemmas.List.{get_or_past, get_or-take, get_or_append_left, get_or_at, length-set, length-append, length-take-le}
use Rattle.std.proofs.lemmas.List.Sums.{sum_by-set, sum_by-cons}
use Rattle.std.specs.List.{sum_by}
use Rattle.std.proofs.Math.ListN.{get_or-map}
use Rattle.share_tree.specs.Digits.{updated, child_of}
use Rattle.share_tree.specs.LeafNodes.{places_of, IsOrder}
use Rattle.share_tree.proofs.UpdatedLemmas.{updated-there, updated-off}

-- what such a node has at a place is the value at which the place stands
pub at_place : {V : Type 0} (order : List ℕ) (vs : List (Option V)) → length vs ≤ 16 → (q : ℕ) → child_of (places_of order vs) q ≡ child_of vs (get_or order q 255)
at_place order vs few q = ap (get_or (map (child_of vs) order) q) (sym (get_or_past vs 255 None (omega arith))) ∙ get_or-map (child_of vs) order q 255

module _ (order : List ℕ) (n : ℕ) (h : IsOrder order n) where
  -- there are no more leaves than places
  pub at_most : n ≤ 16
  at_most = let full : count_by (λ k. nat_eq k 255) order + n ≡ 16 = h.full in omega (arith, full)

  -- past the places there is none
  past : (q : ℕ) → 16 ≤ q → get_or order q 255 ≡ 255
  past q ge = get_or_past order q 255 (omega (arith, h.long))

  -- each place has one of the leaves or none
  each : (q : ℕ) → (get_or order q 255 < n) ⊎ (get_or order q 255 ≡ 255)
  each q = elim (cases_lt q 16) [
    | inl lt ↦ h.each q lt
    | inr ge ↦ inr (past q ge)
  ]

  -- no other place has the leaf of a place
  apart : (p q : ℕ) → p < 16 → get_or order p 255 < n → q ≢ p → get_or order q 255 ≢ get_or order p 255
  apart p q fits there ne e = elim (cases_lt q 16) [
    | inl lt ↦ ne (sym (h.once p q fits lt there (sym e)))
    | inr ge ↦ let few = at_most in let none : get_or order q 255 ≡ 255 = past q ge in absurd (omega (arith, few, none, e, there))
  ]

  -- a place that stands past the leaves stands at 255
  pub free : (p : ℕ) → p < 16 → n ≤ get_or order p 255 → get_or order p 255 ≡ 255
  free p fits none = elim (h.each p fits) [
    | inl lt ↦ absurd (omega (arith, lt, none))
    | inr e ↦ e
  ]

module _ {V : Type 0} (order : List ℕ) (vs : List (Option V)) (h : IsOrder order (length vs)) (p : ℕ) (fits : p < 16) where
  few : length vs ≤ 16
  few = at_most order (length vs) h

  -- another value for a place that has one
  pub replaced : (o : Option V) → get_or order p 255 < length vs → (q : ℕ) → child_of (places_of order (set vs (get_or order p 255) o)) q ≡ updated (child_of (places_of order vs)) p o q
  replaced o there q =
      let i : ℕ = get_or order p 255 in
      let long : length (set vs i o) ≡ length vs = length-set vs i o in
      at_place order (set vs i o) (omega (arith, long, few)) q
      ∙ elim (cases_eq q p) [
        | inl e ↦ ap (λ k. child_of (set vs i o) (get_or order k 255)) e ∙ get_or-set_same vs i o None there ∙ sym (updated-there (child_of (places_of order vs)) p o q e)
        | inr ne ↦
            get_or-set_other vs i (get_or order q 255) o None (apart order (length vs) h p q fits there ne)
            ∙ sym (at_place order vs few q)
            ∙ sym (updated-off (child_of (places_of order vs)) p o q ne)
      ]

  module _ (o : Option V) (room : length vs < 16) where
    -- a value for a place that has none
    pub added : (q : ℕ) → child_of (places_of (set order p (length vs)) (vs ++ o ∷ [])) q ≡ updated (child_of (places_of order vs)) p o q
    added q =
        let n : ℕ = length vs in
        let long : length (vs ++ o ∷ []) ≡ n + 1 = length-append vs (o ∷ []) in
        let within : p < length order = omega (arith, h.long, fits) in
        at_place (set order p n) (vs ++ o ∷ []) (omega (arith, long, room)) q
        ∙ elim (cases_eq q p) [
          | inl e ↦
              ap (λ k. child_of (vs ++ o ∷ []) (get_or (set order p n) k 255)) e
              ∙ ap (child_of (vs ++ o ∷ [])) (get_or-set_same order p n 255 within)
              ∙ get_or_at vs o [] None n refl
              ∙ sym (updated-there (child_of (places_of order vs)) p o q e)
          | inr ne ↦
              ap (child_of (vs ++ o ∷ [])) (get_or-set_other order p q n 255 ne)
              ∙ elim (each order n h q) [
                | inl lt ↦ get_or_append_left vs (o ∷ []) None (get_or order q 255) lt
                | inr e ↦ ap (child_of (vs ++ o ∷ [])) e ∙ get_or_past (vs ++ o ∷ []) 255 None (omega (arith, long, room)) ∙ sym (get_or_past vs 255 None (omega (arith, few))) ∙ ap (child_of vs) (sym e)
              ]
              ∙ sym (at_place order vs few q)
              ∙ sym (updated-off (child_of (places_of order vs)) p o q ne)
        ]

-- one for a place that has none
abbrev pub is_free : ℕ → ℕ
is_free k = cond (nat_eq k 255) 1 0

free-none : (k : ℕ) → k ≡ 255 → is_free k ≡ 1
free-none k e = ap (λ b. cond b 1 0) (eq-eqb k 255 e)

free-some : (k : ℕ) → k < 255 → is_free k ≡ 0
free-some k lt = ap (λ b. cond b 1 0) (ne_eqb k 255 (λ e. omega (arith, lt, e)))

-- a place that has none leaves room for a leaf
pub room : (order : List ℕ) (n : ℕ) → IsOrder order n → (p : ℕ) → p < 16 → n ≤ get_or order p 255 → n < 16
room order n h p fits none =
    let within : p < length order = omega (arith, h.long, fits) in
    let few = at_most order n h in
    let is = free order n h p fits none in
    let s : sum_by is_free (set order p 0) + is_free (get_or order p 255) ≡ sum_by is_free order + is_free 0 = sum_by-set is_free order p 0 255 within in
    let full : sum_by is_free order + n ≡ 16 = h.full in
    omega (arith, s, free-none (get_or order p 255) is, free-some 0 (omega arith), full)

-- sums of what is alike place by place
sum_by-alike : (f : ℕ → ℕ) (xs ys : List ℕ) → length xs ≡ length ys → ((k : ℕ) → k < length xs → f (get_or xs k 255) ≡ f (get_or ys k 255)) → sum_by f xs ≡ sum_by f ys
sum_by-alike f [] [] h e = refl
sum_by-alike f [] (y ∷ ys) h e = absurd (omega (arith, h))
sum_by-alike f (x ∷ xs) [] h e = absurd (omega (arith, h))
sum_by-alike f (x ∷ xs) (y ∷ ys) h e =
    let first : f x ≡ f y = e 0 (omega arith) in
    let rest : sum_by f xs ≡ sum_by f ys = sum_by-alike f xs ys (omega (arith, h)) (λ k lt. e (suc k) (omega (arith, lt))) in
    omega (arith, sum_by-cons f x xs, sum_by-cons f y ys, first, rest)

-- places that all have none
pub all_free : (xs : List ℕ) → ((k : ℕ) → k < length xs → get_or xs k 255 ≡ 255) → sum_by is_free xs ≡ length xs
all_free [] h = refl
all_free (x ∷ xs) h =
    let first : x ≡ 255 = h 0 (omega arith) in
    let rest : sum_by is_free xs ≡ length xs = all_free xs (λ k lt. h (suc k) (omega (arith, lt))) in
    omega (arith, sum_by-cons is_free x xs, free-none x first, rest)

-- the order after it
pub IsOrder-added : (order : List ℕ) (n : ℕ) → IsOrder order n → (p : ℕ) → p < 16 → n ≤ get_or order p 255 → n < 16 → IsOrder (set order p n) (n + 1)
IsOrder-added order n h p fits none room =
    let within : p < length order = omega (arith, h.long, fits) in
    let here : (q : ℕ) → q ≡ p → get_or (set order p n) q 255 ≡ n = λ q e. ap (λ k. get_or (set order p n) k 255) e ∙ get_or-set_same order p n 255 within in
    let there : (q : ℕ) → q ≢ p → get_or (set order p n) q 255 ≡ get_or order q 255 = λ q ne. get_or-set_other order p q n 255 ne in
    record {
      long = length-set order p n ∙ h.long;
      each = λ q f. elim (cases_eq q p) [
        | inl e ↦ inl (omega (arith, here q e))
        | inr ne ↦ elim (h.each q f) [
          | inl lt ↦ inl (omega (arith, there q ne, lt))
          | inr e ↦ inr (there q ne ∙ e)
        ]
      ];
      once = λ q r f g lt e. elim (cases_eq q p) [
        | inl a ↦ elim (cases_eq r p) [
          | inl b ↦ a ∙ sym b
          | inr b ↦ elim (h.each r g) [
            | inl lt' ↦ absurd (omega (arith, here q a, there r b, e, lt'))
            | inr e' ↦ absurd (omega (arith, here q a, there r b, e, e', room))
          ]
        ]
        | inr a ↦ elim (cases_eq r p) [
          | inl b ↦ elim (h.each q f) [
            | inl lt' ↦ absurd (omega (arith, there q a, here r b, e, lt'))
            | inr e' ↦ absurd (omega (arith, there q a, here r b, e, e', room))
          ]
          | inr b ↦ elim (h.each q f) [
            | inl lt' ↦ h.once q r f g lt' (sym (there q a) ∙ e ∙ there r b)
            | inr e' ↦ absurd (omega (arith, there q a, lt, e', room))
          ]
        ]
      ];
      full =
          let is = free order n h p fits none in
          let s : sum_by is_free (set order p n) + is_free (get_or order p 255) ≡ sum_by is_free order + is_free n = sum_by-set is_free order p n 255 within in
          let full : sum_by is_free order + n ≡ 16 = h.full in
          omega (arith, s, free-none (get_or order p 255) is, free-some n (omega (arith, room)), full);
    }

module _ (order named : List ℕ) (n : ℕ) (h : IsOrder order n) (long : length named ≡ 16) (p : ℕ) (fits : p < 16) (there : get_or order p 255 < n)
    (renamed : (q : ℕ) → q < 16 → get_or named q 255 ≡ cond (nat_eq (get_or order q 255) (n - 1)) (get_or order p 255) (get_or order q 255)) where
  abbrev pub i : ℕ
  i = get_or order p 255

  abbrev pub after : List ℕ
  after = set named p 255

  -- the place itself has none, the one with the last leaf has that which the place had, and others have theirs
  here : (q : ℕ) → q ≡ p → get_or after q 255 ≡ 255
  here q e = ap (λ k. get_or after k 255) e ∙ get_or-set_same named p 255 255 (omega (arith, long, fits))

  of_last : (q : ℕ) → q < 16 → q ≢ p → get_or order q 255 ≡ n - 1 → get_or after q 255 ≡ i
  of_last q f ne e = get_or-set_other named p q 255 255 ne ∙ renamed q f ∙ ap (λ b. cond b i (get_or order q 255)) (eq-eqb (get_or order q 255) (n - 1) e)

  of_other : (q : ℕ) → q < 16 → q ≢ p → get_or order q 255 ≢ n - 1 → get_or after q 255 ≡ get_or order q 255
  of_other q f ne e = get_or-set_other named p q 255 255 ne ∙ renamed q f ∙ ap (λ b. cond b i (get_or order q 255)) (ne_eqb (get_or order q 255) (n - 1) e)

  beyond : (q : ℕ) → 16 ≤ q → get_or after q 255 ≡ 255
  beyond q ge = get_or_past after q 255 (omega (arith, length-set named p 255, long, ge))

  -- the order after it
  pub IsOrder-taken : IsOrder after (n - 1)
  IsOrder-taken = record {
    long = length-set named p 255 ∙ long;
    each = λ q f. elim (cases_eq q p) [
      | inl e ↦ inr (here q e)
      | inr ne ↦ elim (cases_eq (get_or order q 255) (n - 1)) [
        | inl e ↦ inl (let other : get_or order q 255 ≢ i = apart order n h p q fits there ne in omega (arith, of_last q f ne e, other, e, there))
        | inr o ↦ elim (h.each q f) [
          | inl lt ↦ inl (omega (arith, of_other q f ne o, o, lt))
          | inr e ↦ inr (of_other q f ne o ∙ e)
        ]
      ]
    ];
    once = λ q r f g lt e. elim (cases_eq q p) [
      | inl a ↦ absurd (let few = at_most order n h in omega (arith, here q a, lt, few))
      | inr a ↦ elim (cases_eq r p) [
        | inl b ↦ absurd (let few = at_most order n h in omega (arith, here r b, lt, e, few))
        | inr b ↦ elim (cases_eq (get_or order q 255) (n - 1)) [
          | inl x ↦ elim (cases_eq (get_or order r 255) (n - 1)) [
            | inl y ↦ h.once q r f g (omega (arith, x, there)) (x ∙ sym y)
            | inr y ↦ absurd (apart order n h p r fits there b (sym (of_other r g b y) ∙ sym e ∙ of_last q f a x))
          ]
          | inr x ↦ elim (cases_eq (get_or order r 255) (n - 1)) [
            | inl y ↦ absurd (apart order n h p q fits there a (sym (of_other q f a x) ∙ e ∙ of_last r g b y))
            | inr y ↦ h.once q r f g (omega (arith, of_other q f a x, lt)) (sym (of_other q f a x) ∙ e ∙ of_other r g b y)
          ]
        ]
      ]
    ];
    full =
        let few = at_most order n h in
        let same : sum_by is_free named ≡ sum_by is_free order = sum_by-alike is_free named order (long ∙ sym h.long) (λ q lt.
        let f : q < 16 = omega (arith, lt, long) in
        elim (cases_eq (get_or order q 255) (n - 1)) [
          | inl e ↦
              let is : get_or named q 255 ≡ i = renamed q f ∙ ap (λ b. cond b i (get_or order q 255)) (eq-eqb (get_or order q 255) (n - 1) e) in
              free-some (get_or named q 255) (omega (arith, is, there, few)) ∙ sym (free-some (get_or order q 255) (omega (arith, e, there, few)))
          | inr ne ↦ ap is_free (renamed q f ∙ ap (λ b. cond b i (get_or order q 255)) (ne_eqb (get_or order q 255) (n - 1) ne))
        ]) in
        let at : get_or named p 255 ≡ i = renamed p fits ∙ elim (cases_eq (get_or order p 255) (n - 1)) [
          | inl e ↦ ap (λ b. cond b i i) (eq-eqb (get_or order p 255) (n - 1) e)
          | inr ne ↦ ap (λ b. cond b i i) (ne_eqb (get_or order p 255) (n - 1) ne)
        ] in
        let s : sum_by is_free (set named p 255) + is_free (get_or named p 255) ≡ sum_by is_free named + is_free 255 = sum_by-set is_free named p 255 255 (omega (arith, long, fits)) in
        let full : sum_by is_free order + n ≡ 16 = h.full in
        omega (arith, s, same, free-some (get_or named p 255) (omega (arith, at, there, few)), free-none 255 refl, full, there);
  }

module _ {V : Type 0} (order named : List ℕ) (vs : List (Option V)) (h : IsOrder order (length vs)) (long : length named ≡ 16) (p : ℕ) (fits : p < 16) (there : get_or order p 255 < length vs)
    (renamed : (q : ℕ) → q < 16 → get_or named q 255 ≡ cond (nat_eq (get_or order q 255) (length vs - 1)) (get_or order p 255) (get_or order q 255)) where
  abbrev pub k : ℕ
  k = get_or order p 255

  -- the values without that of a place, in whose stead the last one stands
  abbrev pub rest : List (Option V)
  rest = take (length vs - 1) (set vs k (get_or vs (length vs - 1) None))

  long_rest : length rest ≡ length vs - 1
  long_rest = length-take-le (length vs - 1) (set vs k (get_or vs (length vs - 1) None)) (omega (arith, length-set vs k (get_or vs (length vs - 1) None)))

  none_there : (x : ℕ) → x ≡ 255 → child_of rest x ≡ child_of vs x
  none_there x e =
      let few = at_most order (length vs) h in
      get_or_past rest x None (omega (arith, long_rest, e, few)) ∙ sym (get_or_past vs x None (omega (arith, e, few)))

  -- a place without its value
  pub taken : (q : ℕ) → child_of (places_of (set named p 255) rest) q ≡ updated (child_of (places_of order vs)) p None q
  taken q =
      let few = at_most order (length vs) h in
      at_place (set named p 255) rest (omega (arith, long_rest, few)) q
      ∙ elim (cases_eq q p) [
        | inl e ↦ ap (child_of rest) (here order named (length vs) h long p fits there renamed q e) ∙ get_or_past rest 255 None (omega (arith, long_rest, few)) ∙ sym (updated-there (child_of (places_of order vs)) p None q e)
        | inr ne ↦ elim (cases_lt q 16) [
          | inr ge ↦ ap (child_of rest) (beyond order named (length vs) h long p fits there renamed q ge) ∙ none_there 255 refl ∙ ap (child_of vs) (sym (past order (length vs) h q ge))
          | inl f ↦ elim (cases_eq (get_or order q 255) (length vs - 1)) [
            | inl e ↦
                let other : get_or order q 255 ≢ k = apart order (length vs) h p q fits there ne in
                ap (child_of rest) (of_last order named (length vs) h long p fits there renamed q f ne e)
                ∙ get_or-take (length vs - 1) (set vs k (get_or vs (length vs - 1) None)) k None (omega (arith, other, e, there))
                ∙ get_or-set_same vs k (get_or vs (length vs - 1) None) None there
                ∙ ap (child_of vs) (sym e)
            | inr o ↦
                ap (child_of rest) (of_other order named (length vs) h long p fits there renamed q f ne o)
                ∙ elim (each order (length vs) h q) [
                  | inr e ↦ none_there (get_or order q 255) e
                  | inl lt ↦
                      get_or-take (length vs - 1) (set vs k (get_or vs (length vs - 1) None)) (get_or order q 255) None (omega (arith, o, lt))
                      ∙ get_or-set_other vs k (get_or order q 255) (get_or vs (length vs - 1) None) None (apart order (length vs) h p q fits there ne)
                ]
          ]
        ]
            ∙ sym (at_place order vs few q)
            ∙ sym (updated-off (child_of (places_of order vs)) p None q ne)
      ]
