use Rattle.std.proofs.Common.{◌∙◌, ap, sym}
use Rattle.std.proofs.lemmas.List.Sums.{fold_more}
use Rattle.leak_report.specs.Lives.{with_made}
use Rattle.leak_report.proofs.made.note_outcomes.Goals as goal

pub loop-outcome-preserved : goal.loop-outcome-preserved
loop-outcome-preserved c =
    c.in_ok-note_made.ensures
    ∙ ap (λ os. with_made os c.outcome-item.result) c.loop-outcome.invariant
    ∙ ap (with_made _) c.outcome-item.is
    ∙ sym (fold_more with_made _ c.args.outcomes.now c.loop-outcome.outcome-index c.outcome-item.result c.loop-outcome-test.true)
