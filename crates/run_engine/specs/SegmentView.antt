-- What a segment of a run is seen as.
use Rattle.std.specs.Prelude.{List, Option, refl}
use Rattle.std.specs.Coded.{Coded, code_by, coded×, coded_list, coded_option}
use Rattle.trace_types.specs.Operation.{Operation}
use Rattle.trace_types.specs.declared.outcomes.Outcome.{Outcome}
use Rattle.trace_types.specs.contracts.ops.Op as op
use Rattle.trace_types.specs.contracts.outcomes.Outcome as outcome
use Rattle.ownership_model.specs.declared.key.Key.{Key}
use Rattle.ownership_model.specs.contracts.key.Key as key
use Rattle.ownership_model.specs.State.{State}
use Rattle.object_heap.specs.StateCode.{state_code}

-- operations with their outcomes, and the state where they begin, if it is kept: as a checkpoint, as an anchor, of which no call tells, or as both;
-- and keys that were told of the operations, if they are known
pub record SegmentView : Type 0 where
  pub mark : Option State
  pub anchor : Option State
  pub keys : Option (List Key)
  pub ops : List Operation
  pub outcomes : List Outcome

-- by which a proof tells segments apart
abbrev pub segment_code : Coded SegmentView
segment_code =
    code_by (Option State × (Option State × (Option (List Key) × (List Operation × List Outcome))))
    (coded× (coded_option state_code) (coded× (coded_option state_code) (coded× (coded_option (coded_list key.the_row.coded)) (coded× (coded_list op.the_row.coded) (coded_list outcome.the_row.coded)))))
    (λ s. (s.mark, (s.anchor, (s.keys, (s.ops, s.outcomes))))) (λ p. record { mark = p.0; anchor = p.1.0; keys = p.1.1.0; ops = p.1.1.1.0; outcomes = p.1.1.1.1 }) (λ _. refl)
