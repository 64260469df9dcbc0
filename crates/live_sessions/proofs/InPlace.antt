-- What is at the places after one more was made.
use Rattle.std.proofs.Common.{◌≡◌, ◌⊎◌, inl, inr, ℕ, ◌<◌, ◌≤◌, List, [], ◌∷◌, ◌++◌, length, get_or, Option, None, sym, subst, arith, length-append}
use Rattle.std.specs.Prelude.{IfSome}
use Rattle.std.proofs.lemmas.Bool.{cases_lt}
use Rattle.std.proofs.lemmas.List.{get_or_append_left, get_or_push, get_or_past}
use Rattle.live_sessions.specs.Views.{PassView}
use Rattle.live_sessions.specs.Places.{AreOwn}

-- one place more
pub own_more : (places : List (Option PassView)) (o : Option PassView) → AreOwn places → IfSome o (λ p. p.session ≡ length places) → AreOwn (places ++ o ∷ [])
own_more places o own is s = by_case (cases_lt s (length places))
  where
    at_end : (length places ≡ s) ⊎ (length places < s) → IfSome (get_or (places ++ o ∷ []) s None) (λ p. p.session ≡ s)
    at_end (inl here) =
        subst (λ (x : Option PassView). IfSome x (λ p. p.session ≡ s)) (sym (get_or_push places o None s here)) (subst (λ (k : ℕ). IfSome o (λ p. p.session ≡ k)) here is)
    at_end (inr past) =
        let none : get_or (places ++ o ∷ []) s None ≡ None = get_or_past (places ++ o ∷ []) s None (omega (arith, past, length-append places (o ∷ []))) in
        subst (λ (x : Option PassView). IfSome x (λ p. p.session ≡ s)) (sym none) tt

    by_case : (s < length places) ⊎ (length places ≤ s) → IfSome (get_or (places ++ o ∷ []) s None) (λ p. p.session ≡ s)
    by_case (inl lt) = subst (λ (x : Option PassView). IfSome x (λ p. p.session ≡ s)) (sym (get_or_append_left places (o ∷ []) None s lt)) (own s)
    by_case (inr le) = at_end (last (cases_lt (length places) s))
      where
        last : (length places < s) ⊎ (s ≤ length places) → (length places ≡ s) ⊎ (length places < s)
        last (inl past) = inr past
        last (inr here) = inl (omega (arith, here, le))
