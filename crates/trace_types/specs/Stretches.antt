-- Stretches of a trace, one behind the other (profile of this project).
use Rattle.std.specs.Prelude.{List, flat_map}
use Rattle.trace_types.specs.Operation.{Operation}
use Rattle.trace_types.specs.declared.outcomes.Outcome.{Outcome}
use Rattle.trace_types.specs.declared.stretches.Stretch.{Stretch}

-- the operations of all
abbrev pub ops_of : List Stretch → List Operation
ops_of stretches = flat_map (λ (s : Stretch). s.ops.now) stretches

-- the outcomes of all
abbrev pub outcomes_of : List Stretch → List Outcome
outcomes_of stretches = flat_map (λ (s : Stretch). s.outcomes.now) stretches
