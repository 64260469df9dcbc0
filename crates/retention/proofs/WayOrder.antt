-- The order of ways, the last place first: shorter ones before longer ones, and those as long place by place.
use Rattle.std.proofs.Common.{ℕ, ◌<◌, inl, inr, List, [], ◌∷◌, refl, sym, ap, ◌∙◌, subst, arith}
use Rattle.retention.specs.Walked.{Less, NoLater}

pub less_trans : (a b c : List ℕ) → Less a b → Less b c → Less a c
less_trans [] [] c h k = absurd h
less_trans [] (q ∷ b) [] h k = absurd k
less_trans [] (q ∷ b) (r ∷ c) h k = tt
less_trans (p ∷ a) [] c h k = absurd h
less_trans (p ∷ a) (q ∷ b) [] h k = absurd k
less_trans (p ∷ a) (q ∷ b) (r ∷ c) (inl h) (inl k) = inl (less_trans a b c h k)
less_trans (p ∷ a) (q ∷ b) (r ∷ c) (inl h) (inr k) = inl (subst (λ x. Less a x) k.0 h)
less_trans (p ∷ a) (q ∷ b) (r ∷ c) (inr h) (inl k) = inl (subst (λ x. Less x c) (sym h.0) k)
less_trans (p ∷ a) (q ∷ b) (r ∷ c) (inr h) (inr k) = inr (h.0 ∙ k.0, omega (arith, h.1, k.1))

pub less_itself : (a : List ℕ) → Less a a → ⊥
less_itself [] h = h
less_itself (p ∷ a) (inl h) = less_itself a h
less_itself (p ∷ a) (inr h) = omega (arith, h.1)

pub no_later_less : (a b c : List ℕ) → NoLater a b → Less b c → Less a c
no_later_less a b c (inl e) k = subst (λ x. Less x c) (sym e) k
no_later_less a b c (inr h) k = less_trans a b c h k

pub less_no_later : (a b c : List ℕ) → Less a b → NoLater b c → Less a c
less_no_later a b c h (inl e) = subst (λ x. Less a x) e h
less_no_later a b c h (inr k) = less_trans a b c h k

pub no_later_trans : (a b c : List ℕ) → NoLater a b → NoLater b c → NoLater a c
no_later_trans a b c (inl e) k = subst (λ x. NoLater x c) (sym e) k
no_later_trans a b c (inr h) k = inr (less_no_later a b c h k)

-- the same place behind both
pub behind_both : (p : ℕ) (a b : List ℕ) → NoLater a b → NoLater (p ∷ a) (p ∷ b)
behind_both p a b (inl e) = inl (ap (λ x. p ∷ x) e)
behind_both p a b (inr h) = inr (inl h)

-- any places behind both
pub less_behind : (p q : ℕ) (a b : List ℕ) → Less a b → Less (p ∷ a) (q ∷ b)
less_behind p q a b h = inl h

-- a later place behind the same
pub later_place : (p q : ℕ) (a : List ℕ) → p < q → Less (p ∷ a) (q ∷ a)
later_place p q a h = inr (refl, h)
