-- When two heaps agree: what handles, cells and scopes hold, and whatever can be reached by strong or weak slots, is the same in both
-- (profile of this project).
use Rattle.std.specs.Prelude.{ℕ, Bool}
use Rattle.ownership_model.specs.State.{State}
use Rattle.ownership_model.specs.declared.link.Link.TheVariants.{StrongOrWeak}
use Rattle.ownership_model.specs.Reach.{is_reached}
use Rattle.ownership_model.specs.Agrees.{Agrees, is_remaining}
use Rattle.ownership_model.specs.Patch.{Remains, IsRemains}

-- the two agree on what is reached in the first
abbrev pub Agree : State → State → Type 0
Agree new old = Agrees (λ o. is_reached StrongOrWeak new o) new old

-- these are the objects that are not reached
abbrev pub AreRemains : State → State → Remains → Type 0
AreRemains new old x = IsRemains (λ o. is_reached StrongOrWeak new o) new old x

-- whether it is an object of either that is not reached in the first
abbrev pub is_apart : State → State → ℕ → Bool
is_apart new old q = is_remaining (λ o. is_reached StrongOrWeak new o) new old q
