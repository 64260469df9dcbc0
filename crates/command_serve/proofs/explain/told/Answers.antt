use Rattle.std.proofs.Common.{List, sym, subst}
use Rattle.std.specs.Prelude.{string_bytes}
use Rattle.trace_types.specs.Operation.{Operation}
use Rattle.retention_report.specs.Explained.{Explains}
use Rattle.command_serve.specs.declared.due.Due.{Due}
use Rattle.command_serve.proofs.explain.told.Goals as goal

pub returns : goal.returns
returns c =
    let answer = c.in_ok-answer.answer in
    subst (λ (due : Due). Explains c.args.with_lives c.args.trace.now c.args.objects.now due.text due.is_fault) (sym c.of_answer.ensures)
    (subst (λ (ops : List Operation). Explains c.args.with_lives ops c.args.objects.now (string_bytes answer.text) answer.is_missing) c.as_slice.ensures.value c.in_ok-answer.ensures)
