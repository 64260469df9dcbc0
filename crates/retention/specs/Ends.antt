-- How many objects leaked, how many cycles they form, and how many husks are left; and which objects stand for them (profile of this project).
use Rattle.std.specs.Prelude.{ℕ, ◌≡◌, ◌↔◌, ◌≤◌, ◌⊎◌, List, length, filter, Bool, true}
use Rattle.std.specs.FinMap.{get, keys}
use Rattle.ownership_model.specs.State.{State}
use Rattle.ownership_model.specs.Release.{is_husk}
use Rattle.ownership_model.specs.Leaks.{IsLeaked}
use Rattle.retention_model.specs.Cycles.{IsInCycle, AreInOneCycle}
use Rattle.retention_model.specs.declared.totals.Totals.{Totals}

-- the objects of a state of which this is so, rising
abbrev pub AreAll : State → (ℕ → Type 0) → List ℕ → Type 0
AreAll m IsSo os = (k : ℕ → Bool) × ((o : ℕ) → (k o ≡ true) ↔ IsSo o) × (os ≡ filter k (keys m.objects))

-- the least object of a cycle
abbrev pub IsLeastInCycle : State → ℕ → Type 0
IsLeastInCycle m o = IsInCycle m o × ((p : ℕ) → AreInOneCycle m o p → o ≤ p)

-- the object stands for a cycle, or is a husk
abbrev pub IsOfNote : State → ℕ → Type 0
IsOfNote m o = IsLeastInCycle m o ⊎ (is_husk (get m.objects o) ≡ true)

-- the numbers of these
pub record AreTotals (m : State) (t : Totals) : Type 0 where
  pub leaks : (os : List ℕ) × AreAll m (IsLeaked m) os × (t.leaks ≡ length os)
  pub cycles : (os : List ℕ) × AreAll m (IsLeastInCycle m) os × (t.cycles ≡ length os)
  pub husks : (os : List ℕ) × AreAll m (λ o. is_husk (get m.objects o) ≡ true) os × (t.husks ≡ length os)
