use Rattle.std.proofs.Common.{◌∙◌, sym, ap, length}
use Rattle.trace_types.specs.Stretches.{ops_of, outcomes_of}
use Rattle.leak_report.specs.Report.{Contents}
use Rattle.leak_report.proofs.LineLemmas.{lines_length}
use Rattle.leak_report.proofs.StretchLemmas.{as_many}
use Rattle.leak_report.proofs.shown.Report.operations.Goals as goal

pub returns : goal.returns
returns c =
    let ss = c.self.inside.stretches.items in
    c.operations.ensures ∙ ap (λ xs. length (ops_of xs)) c.deref.ensures.value ∙ sym (lines_length (ops_of ss) (outcomes_of ss) (as_many ss)) ∙ ap (λ (r : Contents). length r.lines) c.self.view_is
