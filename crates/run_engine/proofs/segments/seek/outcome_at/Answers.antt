use Rattle.std.proofs.Common.{◌<◌, ◌-◌, ◌∙◌, length, ap, sym, arith}
use Rattle.std.specs.Prelude.{Some, slice_get}
use Rattle.std.proofs.lemmas.Option.{slice_get_past, slice_get-get_or}
use Rattle.ownership_model.specs.State.{nothing_held}
use Rattle.run_engine.specs.Segments.{trace_of, outcomes_in}
use Rattle.run_engine.proofs.SeekLemmas.{even-all, outcome-there}
use Rattle.run_engine.proofs.segments.seek.outcome_at.Goals as goal

pub returns-then-place-ops_len : goal.returns-then-place-ops_len
returns-then-place-ops_len c =
    let long = even-all nothing_held c.args.segments.now c.requires in
    sym (slice_get_past (outcomes_in c.args.segments.now) c.args.place (omega (arith, c.ops_len.ensures.value, c.if-place-ops_len.true)))

pub returns-then-own-outcomes : goal.returns-then-own-outcomes
returns-then-own-outcomes c =
    let before : c.args.place < length (trace_of c.args.segments.now) = omega (arith, c.ops_len.ensures.value, c.if-place-ops_len.false) in
    let own = c.args.place - c.last_from-i.result.1 in
    sym (outcome-there c.args.segments.now c.args.place c.last_from-i.result.0 c.last_from-i.result.1 c.at-segment.result c.last_from-i.ensures.last before c.at-segment.ensures c.requires
    ∙ ap (λ os. slice_get os own) (sym c.outcomes-outcomes.ensures)
    ∙ slice_get-get_or c.outcomes-outcomes.result.now own _ c.if-own-outcomes.true
    ∙ ap Some (sym c.index-outcomes-own.is))

pub returns : goal.returns
returns c =
    let before : c.args.place < length (trace_of c.args.segments.now) = omega (arith, c.ops_len.ensures.value, c.if-place-ops_len.false) in
    let own = c.args.place - c.last_from-i.result.1 in
    sym (outcome-there c.args.segments.now c.args.place c.last_from-i.result.0 c.last_from-i.result.1 c.at-segment.result c.last_from-i.ensures.last before c.at-segment.ensures c.requires
    ∙ ap (λ os. slice_get os own) (sym c.outcomes-outcomes.ensures)
    ∙ slice_get_past c.outcomes-outcomes.result.now own (omega (arith, c.if-own-outcomes.false)))
