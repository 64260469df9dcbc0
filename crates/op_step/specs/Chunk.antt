-- A start and operations to be replayed from it.
use Rattle.std.specs.Prelude.{◌≡◌, List, IsTrue, refl}
use Rattle.std.specs.Coded.{Coded, code_by, coded×, coded_list}
use Rattle.trace_types.specs.Operation.{Operation}
use Rattle.trace_types.specs.Trace.{has_distinct_numbers}
use Rattle.trace_types.specs.declared.outcomes.Outcome.{Outcome}
use Rattle.trace_types.specs.contracts.ops.Op as op
use Rattle.ownership_model.specs.State.{State}
use Rattle.ownership_model.specs.Step.{outcomes_from, end_from, AreUnused}
use Rattle.object_heap.specs.StateCode.{state_code}

-- a state, and operations to be replayed from it
pub record Chunk : Type 0 where
  pub start : State
  pub ops : List Operation

-- by which a proof tells chunks apart
abbrev pub chunk_code : Coded Chunk
chunk_code = code_by (State × List Operation) (coded× state_code (coded_list op.the_row.coded)) (λ c. (c.start, c.ops)) (λ p. record { start = p.0; ops = p.1 }) (λ _. refl)

-- the operations can be replayed from the start, and that gives these outcomes and this end
pub record IsReplayOf (c : Chunk) (outcomes : List Outcome) (end : State) : Type 0 where
  pub distinct : IsTrue (has_distinct_numbers c.ops)
  pub unused : AreUnused c.start c.ops
  pub outcomes_are : outcomes ≡ outcomes_from c.start c.ops
  pub end_is : end ≡ end_from c.start c.ops
