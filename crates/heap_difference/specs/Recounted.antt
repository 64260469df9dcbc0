-- Outcomes in place of others, where they are others (profile of this project).
use Rattle.std.specs.Prelude.{List, Option, Some, None}
use Rattle.trace_types.specs.declared.outcomes.Outcome.{Outcome}

-- those in place of them, or these themselves
abbrev pub told_or : List Outcome → Option (List Outcome) → List Outcome
told_or outcomes None = outcomes
told_or outcomes (Some others) = others
