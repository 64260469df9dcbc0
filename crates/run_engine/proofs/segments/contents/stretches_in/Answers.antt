use Rattle.std.proofs.Common.{◌++◌, [], ◌∷◌, ap, sym, ◌∙◌, arith}
use Rattle.std.proofs.lemmas.List.{append-nil}
use Rattle.std.proofs.lemmas.List.Concat.{flat_map-append}
use Rattle.trace_types.specs.declared.stretches.Stretch.{Stretch}
use Rattle.trace_types.specs.Stretches.{outcomes_of}
use Rattle.trace_types.specs.Stretches as lent
use Rattle.ownership_model.specs.State.{nothing_held}
use Rattle.run_engine.proofs.SegmentLemmas.{trace_of-next, outcomes_in-next, even_at}
use Rattle.run_engine.proofs.segments.contents.stretches_in.Goals as goal

pub stretch-requires : goal.stretch-requires
stretch-requires c = even_at nothing_held c.args.segments.now c.loop-i.i c.at-segment.result c.requires (omega (arith, c.loop-i-test.true, c.len-i-end.ensures)) c.at-segment.ensures

pub loop-i-preserved : goal.loop-i-preserved
loop-i-preserved c =
    let s = c.stretch.result in
    let segments = c.args.segments.now in
    let j = c.loop-i.i in
    record {
      ops =
          ap lent.ops_of c.in_ok-push.ensures.items
          ∙ flat_map-append (λ (s : Stretch). s.ops.now) c.loop-i.stretches.items (s ∷ [])
          ∙ ap (λ xs. lent.ops_of c.loop-i.stretches.items ++ xs) (append-nil s.ops.now ∙ c.stretch.ensures.ops)
          ∙ ap (λ xs. xs ++ c.at-segment.result.ops) c.loop-i.invariant.ops
          ∙ sym (trace_of-next segments j c.at-segment.result (omega (arith, c.loop-i-test.true, c.len-i-end.ensures)) c.at-segment.ensures);
      outcomes =
          ap outcomes_of c.in_ok-push.ensures.items
          ∙ flat_map-append (λ (s : Stretch). s.outcomes.now) c.loop-i.stretches.items (s ∷ [])
          ∙ ap (λ xs. outcomes_of c.loop-i.stretches.items ++ xs) (append-nil s.outcomes.now ∙ c.stretch.ensures.outcomes)
          ∙ ap (λ xs. xs ++ c.at-segment.result.outcomes) c.loop-i.invariant.outcomes
          ∙ sym (outcomes_in-next segments j c.at-segment.result (omega (arith, c.loop-i-test.true, c.len-i-end.ensures)) c.at-segment.ensures);
    }
