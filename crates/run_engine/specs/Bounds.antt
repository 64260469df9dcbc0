-- How many operations an edit may replay.
use Rattle.std.specs.Prelude.{ℕ, ◌+◌, ◌-◌, ◌≤◌, List, length, take, Contains}
use Rattle.trace_types.specs.Operation.{Operation}
use Rattle.ownership_model.specs.State.{nothing_held}
use Rattle.ownership_model.specs.Step.{end_from}
use Rattle.agreement.specs.Agreement.{Agree}
use Rattle.run_engine.specs.HeadAndTail.{AreShared}
use Rattle.run_engine.specs.Marks.{IsGreatest}

-- the state of the edited trace agrees with that of the old one at p: at the place that p has in the edited one, where a becomes b
abbrev pub AgreesAt : List Operation → List Operation → ℕ → ℕ → ℕ → Type 0
AgreesAt old ops a b p = Agree (end_from nothing_held (take (p - a + b) ops)) (end_from nothing_held (take p old))

-- from r on no more operations were stepped than up to the end, or up to any checkpoint at or behind a where the states agree
pub record StepsAtMost (old ops : List Operation) (a b : ℕ) (marks : List ℕ) (r before after : ℕ) : Type 0 where
  pub whole : after + r ≤ before + length ops
  pub stop : (p : ℕ) → Contains marks p → a ≤ p → AgreesAt old ops a b p → after + r ≤ before + (p - a + b)

-- the bound from the greatest checkpoint at or before the head
abbrev pub StepsAtMostFrom : List Operation → List Operation → List ℕ → ℕ → ℕ → Type 0
StepsAtMostFrom old ops marks before after =
    (head tail r : ℕ) → AreShared old ops head tail → IsGreatest marks head r → StepsAtMost old ops (length old - tail) (length ops - tail) marks r before after
