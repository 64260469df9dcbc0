-- Beginnings of one list.
use Rattle.std.proofs.Common.{◌≡◌, ℕ, ◌+◌, ◌≤◌, List, [], ◌∷◌, ◌++◌, length, refl, ap, sym, ◌∙◌, arith, length-append}
use Rattle.std.proofs.lemmas.List.{append-nil}
use mathlib.Core.List.{IsPrefix}

no_more : {A : Type 0} (n : ℕ) (r : List A) → n + length r ≤ n → r ≡ []
no_more n [] le = refl
no_more n (x ∷ r) le = absurd (omega arith)

-- a beginning is no longer than the whole
pub prefix_length : {A : Type 0} (xs ys : List A) → IsPrefix xs ys → length xs ≤ length ys
prefix_length xs ys p = omega (arith, length-append xs p.0, ap length p.1)

-- a beginning that is as long is the whole
pub prefix_whole : {A : Type 0} (xs ys : List A) → IsPrefix xs ys → length ys ≤ length xs → xs ≡ ys
prefix_whole xs ys p le =
    sym (ap (λ r. xs ++ r) (no_more (length xs) p.0 (omega (arith, length-append xs p.0, ap length p.1, le))) ∙ append-nil xs) ∙ p.1

tail_of : {A : Type 0} (x y : A) (xs ys : List A) → x ∷ xs ≡ y ∷ ys → (x ≡ y) × (xs ≡ ys)
tail_of x y xs ys e = (cc e, cc e)

-- of two beginnings of one list the shorter begins the longer
pub appended_shorter : {A : Type 0} (xs ys r s : List A) → xs ++ r ≡ ys ++ s → length xs ≤ length ys → IsPrefix xs ys
appended_shorter [] ys r s e le = (ys, refl)
appended_shorter (x ∷ xs) [] r s e le = absurd (omega arith)
appended_shorter (x ∷ xs) (y ∷ ys) r s e le =
    let both = tail_of x y (xs ++ r) (ys ++ s) e in
    let rest = appended_shorter xs ys r s both.1 (omega (arith, le)) in
    (rest.0, λ i. both.0 i ∷ rest.1 i)

pub prefix_shorter : {A : Type 0} (xs ys zs : List A) → IsPrefix xs zs → IsPrefix ys zs → length xs ≤ length ys → IsPrefix xs ys
prefix_shorter xs ys zs p q le = appended_shorter xs ys p.0 q.0 (p.1 ∙ sym q.1) le
