-- How two heaps are compared and what is left of each is gathered (for private functions alone).
use Rattle.std.specs.Prelude.{ℕ, ◌≡◌, ◌==◌, ◌&&◌, [], Bool, true, Option, is_some, if◌then◌else◌}
use Rattle.std.specs.Ordering.{nat_cmp}
use Rattle.std.specs.FinMap.{FinMap, get}
use Rattle.ownership_model.specs.declared.remaining.Remaining.{Remaining}
use Rattle.ownership_model.specs.State.{State, strong, weak}
use Rattle.ownership_model.specs.Patch.{remaining_at}

-- the object is the same in both, with both counts
pub record AgreeAt (new old : State) (o : ℕ) : Type 0 where
  pub entry : get new.objects o ≡ get old.objects o
  pub strong : strong new [] o ≡ strong old [] o
  pub weak : weak new [] o ≡ weak old [] o

-- so is each object of the set
abbrev pub AgreeOn : (ℕ → Bool) → State → State → Type 0
AgreeOn k new old = (o : ℕ) → k o ≡ true → AgreeAt new old o

-- one object more is among what remains, if it is there
abbrev pub with_remaining : State → FinMap nat_cmp Remaining → ℕ → ℕ → Option Remaining
with_remaining m rest o q = if o == q && is_some (get m.objects o) then remaining_at m q (get m.objects q) else get rest q
