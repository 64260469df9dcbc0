-- A function with another value at a key, at that key and elsewhere.
use Rattle.std.proofs.Common.{◌≡◌, ℕ, cond, ap, eq-eqb}
use Rattle.std.specs.Prelude.{Option}
use Rattle.std.proofs.lemmas.Bool.{ne_eqb}
use Rattle.share_tree.specs.Digits.{updated}

module _ {V : Type 0} (f : ℕ → Option V) (k : ℕ) (o : Option V) (q : ℕ) where
  pub updated-there : q ≡ k → updated f k o q ≡ o
  updated-there e = ap (λ b. cond b o (f q)) (eq-eqb q k e)

  pub updated-off : (q ≡ k → ⊥) → updated f k o q ≡ f q
  updated-off ne = ap (λ b. cond b o (f q)) (ne_eqb q k ne)
