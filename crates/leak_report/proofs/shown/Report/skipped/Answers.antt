use Rattle.std.proofs.Common.{◌∙◌, sym, ap}
use Rattle.std.specs.Prelude.{count_by}
use Rattle.trace_types.specs.Stretches.{ops_of, outcomes_of}
use Rattle.trace_types.specs.declared.outcomes.Outcome.{Outcome}
use Rattle.leak_report.specs.Lines.{is_skipped, is_skipped_line}
use Rattle.leak_report.specs.Report.{Contents}
use Rattle.leak_report.proofs.LineLemmas.{lines_skipped}
use Rattle.leak_report.proofs.StretchLemmas.{as_many}
use Rattle.leak_report.proofs.shown.Report.skipped.Goals as goal

pub returns : goal.returns
returns c =
    let ss = c.self.inside.stretches.items in
    c.skipped.ensures ∙ ap (λ xs. count_by (λ (out : Outcome). is_skipped out.verdict) (outcomes_of xs)) c.deref.ensures.value ∙ sym (lines_skipped (ops_of ss) (outcomes_of ss) (as_many ss)) ∙ ap (λ (r : Contents). count_by is_skipped_line r.lines) c.self.view_is
