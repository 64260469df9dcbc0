use Rattle.std.proofs.Common.{ap, sym, ◌∙◌, ◌++◌, arith}
use Rattle.run_engine.proofs.SegmentLemmas.{outcomes_in-next}
use Rattle.run_engine.proofs.segments.contents.outcomes_in.Goals as goal

pub loop-i-preserved : goal.loop-i-preserved
loop-i-preserved c =
    c.in_ok-extend.ensures
    ∙ ap (λ xs. c.loop-i.all ++ xs) c.outcomes.ensures
    ∙ ap (λ xs. xs ++ c.at-segment.result.outcomes) c.loop-i.invariant
    ∙ sym (outcomes_in-next c.args.segments.now c.loop-i.i c.at-segment.result (omega (arith, c.loop-i-test.true, c.len-i-end.ensures)) c.at-segment.ensures)
