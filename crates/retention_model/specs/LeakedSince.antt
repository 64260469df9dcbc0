-- Since when an object has been leaked. A leaked object may be reached again, by an upgrade of a Weak, so that the last time counts
-- (profile of this project).
use Rattle.std.specs.Prelude.{ℕ, List}
use Rattle.trace_types.specs.Operation.{Operation}
use Rattle.ownership_model.specs.State.{nothing_held}
use Rattle.ownership_model.specs.Leaks.{IsLeaked}
use Rattle.retention_model.specs.Since.{IsSince}

-- the object has been leaked since this operation of a whole trace
abbrev pub IsLeakedSince : List Operation → ℕ → ℕ → Type 0
IsLeakedSince ops o id = IsSince (λ m. IsLeaked m o) nothing_held ops id
