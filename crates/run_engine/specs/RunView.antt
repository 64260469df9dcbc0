-- What a run is seen as.
use Rattle.std.specs.Prelude.{ℕ, List, length, refl}
use Rattle.std.specs.Coded.{Coded, code_by, coded×, coded_ℕ, coded_list}
use Rattle.trace_types.specs.Operation.{Operation}
use Rattle.trace_types.specs.contracts.ops.Op as op
use Rattle.run_engine.specs.Marks.{load_marks}

-- a trace and the rising positions of its kept checkpoints: outcomes and states follow from the trace
pub record RunView : Type 0 where
  pub trace : List Operation
  pub marks : List ℕ

-- by which a proof tells runs apart
abbrev pub run_code : Coded RunView
run_code =
    code_by (List Operation × List ℕ) (coded× (coded_list op.the_row.coded) (coded_list coded_ℕ)) (λ s. (s.trace, s.marks)) (λ p. record { trace = p.0; marks = p.1 }) (λ _. refl)

-- the run of a trace that was loaded, with all the checkpoints that it has then
abbrev pub load_view : List Operation → RunView
load_view trace = record { trace = trace; marks = load_marks (length trace) }
