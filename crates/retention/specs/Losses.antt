-- What is noted of the strong slots that objects lose over a trace: operation by operation, each object that loses one, in any order and
-- perhaps twice (profile of this project).
use Rattle.std.specs.Prelude.{ℕ, ◌≡◌, ◌⊎◌, List, [], ◌∷◌, ◌++◌}
use Rattle.std.specs.List.{AllByRecursion}
use Rattle.trace_types.specs.Operation.{Operation}
use Rattle.ownership_model.specs.State.{State}
use Rattle.ownership_model.specs.Step.{step}
use Rattle.retention_model.specs.Losses.{Loses}
use Rattle.retention.specs.declared.moves.Loss.{Loss}

-- the object is among those of the list
abbrev pub IsLostIn : ℕ → List Loss → Type 0
IsLostIn o [] = ⊥
IsLostIn o (l ∷ ls) = (l.object ≡ o) ⊎ IsLostIn o ls

-- those of one operation: each of the list loses a strong slot by it, and each object that does is in the list
pub record AreLostBy (m : State) (op : Operation) (ls : List Loss) : Type 0 where
  pub each : AllByRecursion (λ l. (l.id ≡ op.id) × Loses m op l.object) ls
  pub all : (o : ℕ) → Loses m op o → IsLostIn o ls

-- those of all operations, in their order
abbrev pub AreLosses : State → List Operation → List Loss → Type 0
AreLosses m [] ls = ls ≡ []
AreLosses m (op ∷ ops) ls = (here rest : List Loss) × (ls ≡ here ++ rest) × AreLostBy m op here × AreLosses (step m op).state ops rest
