-- The one list of scopes is the scopes of all labels: what enters and leaves it, and when two such lists are equal.
use Rattle.std.proofs.Common.{◌≡◌, ℕ, ◌<◌, List, [], ◌∷◌, refl, ap, ◌∙◌, sym, arith, Bool, true, false}
use Rattle.std.specs.Prelude.{◌==◌, if◌then◌else◌, filter, not, nat_le}
use Rattle.std.proofs.lemmas.Bool.Decides.{nat_tests}
use Rattle.trace_types.specs.declared.slots.Scoped.{Scoped}
use Rattle.ownership_model.specs.Scopes.{scope_of, entered, left, AreFrom}
use Rattle.ownership_model.proofs.CountLemmas.{same_number}

abbrev first_of : ℕ → List ℕ → ℕ
first_of d [] = d
first_of d (h ∷ hs) = h

abbrev rest_of : List ℕ → List ℕ
rest_of [] = []
rest_of (h ∷ hs) = hs

none_below : (t v : ℕ) (ss : List Scoped) → t < v → AreFrom v ss → scope_of t ss ≡ []
none_below t v [] low from = refl
none_below t v (s ∷ ss) low from =
    let other : (s.label == t) ≡ false = grind (arith, nat_tests, low, from.0) in
    ap (λ b. if b then s.handle ∷ scope_of t ss else scope_of t ss) other ∙ none_below t s.label ss (omega (arith, low, from.0)) from.1

pub own_first : (s : Scoped) (ss : List Scoped) → scope_of s.label (s ∷ ss) ≡ s.handle ∷ scope_of s.label ss
own_first s ss = let same : (s.label == s.label) ≡ true = grind (arith, nat_tests) in ap (λ b. if b then s.handle ∷ scope_of s.label ss else scope_of s.label ss) same

-- a handle enters the scope of one label, before its others
pub own_entered : (t h : ℕ) (ss : List Scoped) → scope_of t (entered t h ss) ≡ h ∷ scope_of t ss
own_entered t h [] = own_first (record { label = t; handle = h }) []
own_entered t h (s ∷ ss) = elim (nat_le t s.label) as (λ b. nat_le t s.label ≡ b → scope_of t (if b then record { label = t; handle = h } ∷ s ∷ ss else s ∷ entered t h ss) ≡ h ∷ scope_of t (s ∷ ss)) [
  | true ↦ λ e. own_first (record { label = t; handle = h }) (s ∷ ss)
  | false ↦ λ e.
      let other : (s.label == t) ≡ false = grind (arith, nat_tests, e) in
      ap (λ b. if b then s.handle ∷ scope_of t (entered t h ss) else scope_of t (entered t h ss)) other ∙ own_entered t h ss ∙ ap (λ b. h ∷ (if b then s.handle ∷ scope_of t ss else scope_of t ss)) (sym other)
] refl

pub other_entered : (t h u : ℕ) (ss : List Scoped) → (t == u) ≡ false → scope_of u (entered t h ss) ≡ scope_of u ss
other_entered t h u [] apart = ap (λ b. if b then h ∷ [] else []) apart
other_entered t h u (s ∷ ss) apart = elim (nat_le t s.label) as (λ b. scope_of u (if b then record { label = t; handle = h } ∷ s ∷ ss else s ∷ entered t h ss) ≡ scope_of u (s ∷ ss)) [
  | true ↦ ap (λ b. if b then h ∷ scope_of u (s ∷ ss) else scope_of u (s ∷ ss)) apart
  | false ↦ ap (λ hs. if s.label == u then s.handle ∷ hs else hs) (other_entered t h u ss apart)
]

-- and leaves each
left_next : (h t : ℕ) (s : Scoped) (ss hs : List Scoped) (b c : Bool) → scope_of t hs ≡ filter (λ q. not (q == h)) (scope_of t ss) → (s.handle == h) ≡ b → (s.label == t) ≡ c
    → scope_of t (if not b then s ∷ hs else hs) ≡ filter (λ q. not (q == h)) (if c then s.handle ∷ scope_of t ss else scope_of t ss)
left_next h t s ss hs true true rest e f = rest ∙ ap (λ b. if not b then s.handle ∷ filter (λ q. not (q == h)) (scope_of t ss) else filter (λ q. not (q == h)) (scope_of t ss)) (sym e)
left_next h t s ss hs true false rest e f = rest
left_next h t s ss hs false true rest e f =
    ap (λ b. if b then s.handle ∷ scope_of t hs else scope_of t hs) f ∙ ap (λ hs. s.handle ∷ hs) rest
    ∙ ap (λ b. if not b then s.handle ∷ filter (λ q. not (q == h)) (scope_of t ss) else filter (λ q. not (q == h)) (scope_of t ss)) (sym e)
left_next h t s ss hs false false rest e f = ap (λ b. if b then s.handle ∷ scope_of t hs else scope_of t hs) f ∙ rest

pub each_left : (h t : ℕ) (ss : List Scoped) → scope_of t (left h ss) ≡ filter (λ q. not (q == h)) (scope_of t ss)
each_left h t [] = refl
each_left h t (s ∷ ss) = left_next h t s ss (left h ss) (s.handle == h) (s.label == t) (each_left h t ss) refl refl

-- two lists are equal where the scopes of each label are
not_empty : (h : ℕ) (hs : List ℕ) → h ∷ hs ≡ [] → ⊥
not_empty h hs e = absurd cc

lower_label : (x y : Scoped) (xs ys : List Scoped) → AreFrom y.label ys → ((t : ℕ) → scope_of t (x ∷ xs) ≡ scope_of t (y ∷ ys)) → x.label < y.label → ⊥
lower_label x y xs ys from same low =
    not_empty x.handle (scope_of x.label xs) (sym (own_first x xs) ∙ same x.label ∙ none_below x.label y.label (y ∷ ys) low (omega arith, from))

tail_at : (t : ℕ) (x y : Scoped) (xs ys : List Scoped) (b : Bool) → (if b then x.handle ∷ scope_of t xs else scope_of t xs) ≡ (if b then y.handle ∷ scope_of t ys else scope_of t ys) → scope_of t xs ≡ scope_of t ys
tail_at t x y xs ys true e = ap rest_of e
tail_at t x y xs ys false e = e

pub same_scopes : (u v : ℕ) (a b : List Scoped) → AreFrom u a → AreFrom v b → ((t : ℕ) → scope_of t a ≡ scope_of t b) → a ≡ b
same_scopes u v [] [] p q same = refl
same_scopes u v [] (y ∷ ys) p q same = absurd (not_empty y.handle (scope_of y.label ys) (sym (own_first y ys) ∙ sym (same y.label)))
same_scopes u v (x ∷ xs) [] p q same = absurd (not_empty x.handle (scope_of x.label xs) (sym (own_first x xs) ∙ same x.label))
same_scopes u v (x ∷ xs) (y ∷ ys) p q same =
    let not_lower : x.label < y.label → ⊥ = λ low. lower_label x y xs ys q.1 same low in
    let not_higher : y.label < x.label → ⊥ = λ low. lower_label y x ys xs p.1 (λ t. sym (same t)) low in
    let labels : x.label ≡ y.label = equal x.label y.label not_lower not_higher in
    let here : x.handle ∷ scope_of x.label xs ≡ y.handle ∷ scope_of y.label ys = sym (own_first x xs) ∙ same x.label ∙ ap (λ t. scope_of t (y ∷ ys)) labels ∙ own_first y ys in
    let handles : x.handle ≡ y.handle = ap (first_of 0) here in
    let tails : xs ≡ ys = same_scopes x.label y.label xs ys p.1 q.1
    (λ t. tail_at t x y xs ys (x.label == t) (same t ∙ ap (λ l. if l == t then y.handle ∷ scope_of t ys else scope_of t ys) (sym labels))) in
    λ i. record { label = labels i; handle = handles i } ∷ tails i
  where
    equal : (m n : ℕ) → (m < n → ⊥) → (n < m → ⊥) → m ≡ n
    equal m n p q = elim (m == n) as (λ b. (m == n) ≡ b → m ≡ n) [
      | true ↦ λ e. same_number m n e
      | false ↦ λ e. absurd (apart m n p q e)
    ] refl
      where
        apart : (m n : ℕ) → (m < n → ⊥) → (n < m → ⊥) → (m == n) ≡ false → ⊥
        apart m n p q e = grind (arith, nat_tests, p, q, e)
