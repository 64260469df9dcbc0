use Rattle.std.proofs.Common.{[], ◌∙◌, ap, map, sym, subst, take, length, arith}
use Rattle.std.proofs.lemmas.List.{take_all, length-map}
use Rattle.std.proofs.lemmas.List.Concat.{flat_map-append}
use Rattle.trace_types.specs.declared.outcomes.Outcome.{Outcome}
use Rattle.trace_types.specs.declared.stretches.Stretch.{Stretch}
use Rattle.trace_types.specs.Stretches.{outcomes_of}
use Rattle.leak_report.specs.Lives.{numbered, events_of, made_after}
use Rattle.leak_report.specs.Told.{HasRisingObjects, begins, told_by_all}
use Rattle.leak_report.proofs.StretchLemmas.{flat_map_more}
use Rattle.leak_report.proofs.ToldLemmas.{all_told_none, all_told_both, told_rising, given_back, is_life}
use Rattle.leak_report.proofs.lives.lives.Goals as goal

pub loop-stretch-init : goal.loop-stretch-init
loop-stretch-init c = c.in_ok-lives.ensures.begun ∙ ap (map begins) (c.deref.ensures.value ∙ c.in_ok-made.ensures.made) ∙ sym (all_told_none (map begins (made_after [] (outcomes_of c.args.stretches.now))))

pub note_outcomes-requires : goal.note_outcomes-requires
note_outcomes-requires c =
    let first = subst HasRisingObjects (c.in_ok-lives.ensures.begun ∙ ap (map begins) (c.deref.ensures.value ∙ c.in_ok-made.ensures.made)) c.in_ok-lives.ensures.rising in
    subst HasRisingObjects (sym c.deref_mut.ensures.value)
    (told_rising (events_of (outcomes_of (take c.loop-stretch.stretch-index c.args.stretches.now))) (map begins (made_after [] (outcomes_of c.args.stretches.now))) _ c.loop-stretch.invariant first)

pub loop-stretch-preserved : goal.loop-stretch-preserved
loop-stretch-preserved c =
    let s = c.stretch-item.result in
    let first = map begins (made_after [] (outcomes_of c.args.stretches.now)) in
    let before = outcomes_of (take c.loop-stretch.stretch-index c.args.stretches.now) in
    let next = flat_map_more (λ (s : Stretch). s.outcomes.now) c.args.stretches.now c.loop-stretch.stretch-index s c.loop-stretch-test.true c.stretch-item.is in
    given_back c.note_outcomes.new.lives _ _ (ap length c.note_outcomes.ensures ∙ length-map c.deref_mut.result.now (told_by_all (events_of s.outcomes.now)) ∙ c.deref_mut.ensures.len)
    ∙ c.note_outcomes.ensures
    ∙ ap (map (told_by_all (events_of s.outcomes.now))) (c.deref_mut.ensures.value ∙ c.loop-stretch.invariant)
    ∙ all_told_both (events_of before) (events_of s.outcomes.now) first
    ∙ ap (λ es. map (told_by_all es) first) (sym (ap events_of next ∙ flat_map-append (λ (out : Outcome). numbered out.id out.events) before s.outcomes.now))

pub returns : goal.returns
returns c =
    let made = made_after [] (outcomes_of c.args.stretches.now) in
    c.from_vec.ensures
    ∙ c.loop-stretch.invariant
    ∙ ap (λ ss. map (told_by_all (events_of (outcomes_of ss))) (map begins made)) (take_all c.loop-stretch.stretch-index c.args.stretches.now (omega (arith, c.loop-stretch-test.false)))
    ∙ is_life (outcomes_of c.args.stretches.now) made
