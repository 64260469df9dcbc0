-- What an object retains: what would be destroyed with it, if all Arcs to it were dropped (std::sync::Arc, `drop`; Rust Reference,
-- Destructors). The word is that of heap viewers: the objects that the object dominates, and itself.
use Rattle.std.specs.Prelude.{ℕ, ◌≡◌, ◌==◌, ◌&&◌, not, Bool, true}
use Rattle.std.specs.FinMap.{get}
use Rattle.ownership_model.specs.State.{State, is_alive}
use Rattle.ownership_model.specs.declared.link.Link.TheVariants.{StrongOnly}
use Rattle.ownership_model.specs.Reach.{has, root_names, field_names}
use Rattle.ownership_model.specs.Falling.{IsClosed}

-- the least set that has o, and each object that is alive and whose strong slots are all fields of members
pub record IsRetained (m : State) (o : ℕ) (x : ℕ → Bool) : Type 0 where
  pub itself : x o ≡ true
  pub closed : IsClosed m x
  pub least : (k : ℕ → Bool) → k o ≡ true → IsClosed m k → (p : ℕ) → x p ≡ true → k p ≡ true

-- the second state is the first without the strong slots of o: these are dropped, and what falls with them is still to fall
pub record IsWithout (m n : State) (o : ℕ) : Type 0 where
  pub alive : (p : ℕ) → is_alive (get n.objects p) ≡ is_alive (get m.objects p)
  pub roots : (p : ℕ) → has p (root_names StrongOnly n) ≡ (not (p == o) && has p (root_names StrongOnly m))
  pub fields : (q p : ℕ) → has p (field_names StrongOnly n q) ≡ (not (p == o) && has p (field_names StrongOnly m q))
