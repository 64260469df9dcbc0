use Rattle.std.proofs.Common.{◌∙◌, ap, map, sym, take}
use Rattle.std.proofs.lemmas.List.{take_more}
use Rattle.leak_report.specs.Told.{told_by, told_by_all}
use Rattle.leak_report.proofs.ToldLemmas.{all_told_none, all_told_more, told_rising}
use Rattle.leak_report.proofs.endings.note_all.Goals as goal

pub loop-event-init : goal.loop-event-init
loop-event-init c = sym (all_told_none c.args.lives.now)

pub note_event-requires : goal.note_event-requires
note_event-requires c = told_rising (take c.loop-event.event-index c.args.events.now) c.args.lives.now _ c.loop-event.invariant c.requires

pub loop-event-preserved : goal.loop-event-preserved
loop-event-preserved c =
    let told = take c.loop-event.event-index c.args.events.now in
    c.note_event.ensures
    ∙ ap (map (told_by _)) c.loop-event.invariant
    ∙ all_told_more told _ c.args.lives.now
    ∙ ap (λ es. map (told_by_all es) c.args.lives.now) (sym (take_more c.args.events.now c.loop-event.event-index _ c.loop-event-test.true))
