-- What `explain` and `picture` have due for what was read.
use Rattle.std.proofs.Common.{◌≡◌, ◌≢◌, ℕ, List, Bool, Result, Ok, Err, IfOk, OnOk, sym, subst}
use Rattle.trace_types.specs.Operation.{Operation}
use Rattle.trace_reader.specs.declared.fault.LineCause.TheVariants as LineCause
use Rattle.trace_reader.specs.declared.fault.LineFault.{LineFault}
use Rattle.trace_reader.specs.Reading.{read_trace}
use Rattle.retention_report.specs.Explained.{Explains}
use Rattle.retention_report.specs.Pictured.{Pictures}
use Rattle.command_serve.specs.declared.due.Due.{Due}
use Rattle.command_serve.specs.Serve.{fault_due}
use Rattle.command_serve.specs.Explain.{IsExplainedBy, IsExplainDue}
use Rattle.command_serve.specs.Picture.{IsPicturedBy, IsPictureDue}

module _ (objects : List ℕ) (option : Bool) (input : List ℕ) where
  -- of a trace
  pub explained : (ops : List Operation) (due : Due) → read_trace input ≡ Ok ops → Explains option ops objects due.text due.is_fault → IsExplainDue objects option input due
  unfolding IsExplainDue
  explained ops due is told = subst (λ (r : Result (List Operation) LineFault). IsExplainedBy objects option r due) (sym is) told

  pub pictured : (ops : List Operation) (due : Due) → read_trace input ≡ Ok ops → Pictures option ops objects due.text due.is_fault → IsPictureDue objects option input due
  unfolding IsPictureDue
  pictured ops due is told = subst (λ (r : Result (List Operation) LineFault). IsPicturedBy objects option r due) (sym is) told

  -- of a faulty line, where memory did not run out there
  pub explained_fault : {E : Type 0} (fault : LineFault) (made : Result Due E) → IfOk made (λ d. d ≡ fault_due fault) → OnOk made (fault.cause ≢ LineCause.Memory)
      → (fault.cause ≢ LineCause.Memory → read_trace input ≡ Err fault) → IfOk made (IsExplainDue objects option input)
  unfolding IsExplainDue
  explained_fault fault (Ok d) is cause read = subst (λ (r : Result (List Operation) LineFault). IsExplainedBy objects option r d) (sym (read cause)) is
  explained_fault fault (Err e) is cause read = tt

  pub pictured_fault : {E : Type 0} (fault : LineFault) (made : Result Due E) → IfOk made (λ d. d ≡ fault_due fault) → OnOk made (fault.cause ≢ LineCause.Memory)
      → (fault.cause ≢ LineCause.Memory → read_trace input ≡ Err fault) → IfOk made (IsPictureDue objects option input)
  unfolding IsPictureDue
  pictured_fault fault (Ok d) is cause read = subst (λ (r : Result (List Operation) LineFault). IsPicturedBy objects option r d) (sym (read cause)) is
  pictured_fault fault (Err e) is cause read = tt
