-- What is left of numbers when those are taken out of which something holds (for private functions alone).
use Rattle.std.specs.Prelude.{ℕ, ◌≡◌, List, true, false}
use Rattle.ownership_model.specs.Reach.{has}

-- of these numbers only those are left of which it doesn't hold
pub record IsSifted (P : ℕ → Type 0) (all rest : List ℕ) : Type 0 where
  pub out : (q : ℕ) → has q all ≡ true → has q rest ≡ false → P q
  pub left : (q : ℕ) → has q rest ≡ true → (has q all ≡ true) × ¬ (P q)
