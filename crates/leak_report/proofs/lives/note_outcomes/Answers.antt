use Rattle.std.proofs.Common.{◌∙◌, ap, map, sym, take}
use Rattle.trace_types.specs.declared.outcomes.Outcome.{Outcome}
use Rattle.leak_report.specs.Lives.{numbered, events_of}
use Rattle.leak_report.specs.Told.{told_by_all}
use Rattle.leak_report.proofs.StretchLemmas.{flat_map_more}
use Rattle.leak_report.proofs.ToldLemmas.{all_told_none, all_told_both, told_rising}
use Rattle.leak_report.proofs.lives.note_outcomes.Goals as goal

pub loop-outcome-init : goal.loop-outcome-init
loop-outcome-init c = sym (all_told_none c.args.lives.now)

pub note_events-requires : goal.note_events-requires
note_events-requires c = told_rising (events_of (take c.loop-outcome.outcome-index c.args.outcomes.now)) c.args.lives.now _ c.loop-outcome.invariant c.requires

pub loop-outcome-preserved : goal.loop-outcome-preserved
loop-outcome-preserved c =
    let told = events_of (take c.loop-outcome.outcome-index c.args.outcomes.now) in
    let out = c.outcome-item.result in
    c.note_events.ensures
    ∙ ap (λ es. map (told_by_all (numbered out.id es)) c.loop-outcome.lives) c.as_slice.ensures
    ∙ ap (map (told_by_all (numbered out.id out.events))) c.loop-outcome.invariant
    ∙ all_told_both told (numbered out.id out.events) c.args.lives.now
    ∙ ap (λ es. map (told_by_all es) c.args.lives.now) (sym (flat_map_more (λ (x : Outcome). numbered x.id x.events) c.args.outcomes.now c.loop-outcome.outcome-index out c.loop-outcome-test.true c.outcome-item.is))
