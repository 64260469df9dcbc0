-- Digits alone are read as the natural number that they write.
use Rattle.std.proofs.Common.{◌≡◌, ℕ, ◌^◌, ◌<◌, List, [], ◌∷◌, ◌++◌, length, get_or, false, Some, refl, sym, ap, ◌∙◌, arith, append-nil, lt-ltb, ne_eqb}
use Rattle.std.specs.Char.{digit_value}
use Rattle.std.specs.Str.Parse.{AllDigits, IsNumeral, digits_value}
use Rattle.fast_float.specs.Text.{Parts, scan, IsWellFormed}
use Rattle.fast_float.proofs.Writing.{scan-text_of}
use Rattle.serde_json.specs.Data.{unsigned}
use Rattle.serde_json.specs.Read.{number_of, number_from}

no_minus : (ds : List ℕ) → AllDigits 10 ds → 0 < length ds → get_or ds 0 0 ≡ 45 → ⊥
no_minus [] h some e = omega arith
no_minus (d ∷ ds) h some e = let digit : digit_value d < 10 = h.0 in let is : d ≡ 45 = e in grind arith

-- a numeral that has digits alone
abbrev whole : List ℕ → Parts
whole ds = record { whole = ds; point = false; fraction = []; exponent_negative = false; exponent = []; len = length (ds ++ []) }

whole_formed : (ds : List ℕ) → AllDigits 10 ds → IsWellFormed (whole ds)
whole_formed ds h = record { whole_digits = h; fraction_digits = tt; exponent_digits = tt; no_point = λ _. refl; no_exponent = λ _. refl; len_is = refl }

pub number_of-digits : (ds : List ℕ) → IsNumeral 10 ds → digits_value 10 ds < 2 ^ 64 → number_of ds ≡ Some (unsigned (digits_value 10 ds))
unfolding number_of
number_of-digits ds h fits =
    let signed : number_of (ds ++ []) ≡ number_from false (scan (ds ++ [])) = rw (ne_eqb (get_or (ds ++ []) 0 0) 45 (rw append-nil (no_minus ds h.1 h.0))) in
    let read : number_from false (whole ds) ≡ Some (unsigned (digits_value 10 (ds ++ []))) = rw (lt-ltb 0 (length ds) h.0, append-nil) (rw (lt-ltb (digits_value 10 ds) (2 ^ 64) fits)) in
    ap number_of (sym (append-nil ds)) ∙ signed ∙ ap (number_from false) (scan-text_of (whole ds) (whole_formed ds h.1)) ∙ read ∙ ap (λ l. Some (unsigned (digits_value 10 l))) (append-nil ds)
