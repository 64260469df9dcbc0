use Rattle.std.proofs.Common.{[], take, ap, sym, ◌∙◌}
use Rattle.std.proofs.lemmas.List.Sums.{fold-append}
use Rattle.leak_report.specs.Lives.{with_made, made_after}
use Rattle.trace_types.specs.declared.stretches.Stretch.{Stretch}
use Rattle.trace_types.specs.Stretches.{outcomes_of}
use Rattle.leak_report.proofs.StretchLemmas.{flat_map_more}
use Rattle.leak_report.proofs.made.made_by.Goals as goal

pub loop-stretch-preserved : goal.loop-stretch-preserved
loop-stretch-preserved c =
    let s = c.stretch-item.result in
    let before = outcomes_of (take c.loop-stretch.stretch-index c.args.stretches.now) in
    let next = flat_map_more (λ (s : Stretch). s.outcomes.now) c.args.stretches.now c.loop-stretch.stretch-index s c.loop-stretch-test.true c.stretch-item.is in
    c.in_ok-note_outcomes.ensures ∙ ap (λ os. made_after os s.outcomes.now) c.loop-stretch.invariant ∙ sym (fold-append with_made [] before s.outcomes.now) ∙ ap (made_after []) (sym next)
