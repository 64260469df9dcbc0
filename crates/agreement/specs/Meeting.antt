-- What a comparison of two heaps tells.
use Rattle.std.specs.Prelude.{ℕ, ◌≡◌, Bool, not, ◌||◌, is_some}
use Rattle.std.specs.FinMap.{get}
use Rattle.agreement.specs.declared.search.Meeting.{Meeting}
use Rattle.agreement.specs.declared.search.Meeting.TheVariants.{Apart, Same, Alike}
use Rattle.ownership_model.specs.State.{State}
use Rattle.ownership_model.specs.Laws.{ReplayAlike}
use Rattle.ownership_model.specs.Agrees.{is_remaining}
use Rattle.ownership_model.specs.Patch.{Remains, IsRemains}
use Rattle.agreement.specs.Agreement.{Agree}

-- whether the remains have nothing for the number
abbrev pub apart_from : Remains → ℕ → Bool
apart_from x q = not (is_some (get x.removed q) || is_some (get x.added q))

-- The two agree; these objects are all at which they differ (by the law, at no operations), each as it is with its counts; and
-- whatever operations follow are replayed alike. They need not be all that can't be reached
pub record AgreeBut (new old : State) (x : Remains) : Type 0 where
  pub agree : Agree new old
  pub remains : IsRemains (apart_from x) new old x
  pub law : ReplayAlike (is_remaining (apart_from x) new old) new old x

-- what is true of the two where this is told
abbrev pub Meets : State → State → Meeting → Type 0
Meets new old Apart = ¬ (Agree new old)
Meets new old Same = new ≡ old
Meets new old (Alike x) = AgreeBut new old x
