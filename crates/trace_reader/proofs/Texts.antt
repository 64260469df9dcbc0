-- Parts of a text, by where they begin and how long they are.
use Rattle.std.proofs.Common.{◌≡◌, ℕ, zero, suc, ◌+◌, ◌-◌, ◌<◌, ◌≤◌, Bool, true, ◌&&◌, List, [], ◌∷◌, ◌++◌, length, take, drop, get_or, refl, sym, ap, ap₂, ◌∙◌, arith, length-drop}
use Rattle.std.proofs.Math.Seq.{take-add}
use Rattle.std.proofs.lemmas.List.{length-take, drop_more, get_or-drop, get_or-take, take-append-drop, take_rest}
use Rattle.std.proofs.lemmas.List.Folds.{list_all-append}
use Rattle.std.specs.List.{list_all}

-- bytes more that pass
pub all_of_more : (p : ℕ → Bool) (xs : List ℕ) (i n : ℕ) → list_all p (take i xs) ≡ true → list_all p (take n (drop i xs)) ≡ true → list_all p (take (i + n) xs) ≡ true
all_of_more p xs i n before more = ap (list_all p) (take-add i n xs) ∙ list_all-append p (take i xs) (take n (drop i xs)) ∙ ap₂ (λ a b. a && b) before more

pub take_shorter : (k n : ℕ) (xs : List ℕ) → k ≤ n → take k (take n xs) ≡ take k xs
take_shorter zero n xs less = refl
take_shorter (suc k) zero xs less = let never : ⊥ = omega (arith, less) in absurd never
take_shorter (suc k) (suc n) [] less = refl
take_shorter (suc k) (suc n) (x ∷ xs) less = ap (λ t. x ∷ t) (take_shorter k n xs (omega (arith, less)))

-- a byte of a part
module _ (text : List ℕ) (i n k : ℕ) (inside : k < length (take n (drop i text))) where
  within_part : k < n
  within_part = omega (arith, inside, length-take n (drop i text))

  pub within_text : i + k < length text
  within_text = omega (arith, inside, length-take n (drop i text), length-drop i text)

  pub all_before : (p : ℕ → Bool) → list_all p (take i text) ≡ true → list_all p (take k (take n (drop i text))) ≡ true → list_all p (take (i + k) text) ≡ true
  all_before p before more = all_of_more p text i k before (ap (list_all p) (sym (take_shorter k n (drop i text) (omega (arith, within_part)))) ∙ more)

  byte_at : get_or (take n (drop i text)) k 0 ≡ get_or text (i + k) 0
  byte_at = get_or-take n (drop i text) k 0 within_part ∙ get_or-drop i text k 0

  -- the text is cut there
  pub cut_at : (b : ℕ) → get_or (take n (drop i text)) k 0 ≡ b → text ≡ take (i + k) text ++ b ∷ take (length text - (i + k + 1)) (drop (i + k + 1) text)
  cut_at b is =
      sym (take-append-drop (i + k) text)
      ∙ ap (λ t. take (i + k) text ++ t) (drop_more text (i + k) 0 within_text ∙ ap₂ (λ c r. c ∷ r) (sym byte_at ∙ is) (sym (take_rest text (i + k + 1))))
