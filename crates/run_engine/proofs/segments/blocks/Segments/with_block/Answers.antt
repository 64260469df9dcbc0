use Rattle.std.proofs.Common.{◌≡◌, ◌+◌, ◌++◌, ◌∷◌, [], ◌∙◌, ap, sym, arith, map, length, length-append}
use Rattle.run_engine.specs.inner.Parts.{joined, starts_from}
use Rattle.run_engine.specs.Segments.{trace_of}
use Rattle.run_engine.proofs.PartLemmas.{joined-one}
use Rattle.run_engine.proofs.SegmentLemmas.{trace_of-append}
use Rattle.run_engine.proofs.StartLemmas.{starts-more}
use Rattle.run_engine.proofs.PositionLemmas.{positions-more}
use Rattle.run_engine.proofs.segments.blocks.Segments.with_block.Goals as goal

pub invariant_of-result : goal.invariant_of-result
invariant_of-result c =
    let blocks = c.self.inside.blocks.items in
    let one = joined-one c.self.inside.blocks.items c.args.block in
    let place : c.self.inside.len ≡ 0 + length (joined c.self.inside.blocks.items) = omega (arith, c.self.invariant.1) in
    let all = c.in_ok-push-3.ensures.items in (
      c.in_ok-push.ensures.items ∙ (λ j. c.self.invariant.0 j ++ place j ∷ []) ∙ sym (starts-more 0 c.self.inside.blocks.items c.args.block) ∙ ap (starts_from 0) (sym all),
      omega (arith, c.self.invariant.1, c.len-more.ensures, ap length one, length-append (joined c.self.inside.blocks.items) c.args.block, ap (λ bs. length (joined bs)) c.in_ok-push-3.ensures.items),
      omega (arith, c.self.invariant.2, c.if-more-self.false),
      c.in_ok-push-2.ensures.items ∙ (λ j. c.self.invariant.3 j ++ c.self.invariant.4 j ∷ []) ∙ sym (positions-more c.self.inside.blocks.items c.args.block) ∙ ap (λ bs. starts_from 0 (map trace_of bs)) (sym all),
      omega (arith, c.self.invariant.4, c.ops_len-more_ops.ensures.value, ap (λ ss. length (trace_of ss)) one, ap length (trace_of-append (joined c.self.inside.blocks.items) c.args.block), length-append (trace_of (joined c.self.inside.blocks.items)) (trace_of c.args.block), ap (λ bs. length (trace_of (joined bs))) c.in_ok-push-3.ensures.items),
      omega (arith, c.self.invariant.5, c.if-more-self.false),
    )

pub returns : goal.returns
returns c = ap joined c.in_ok-push-3.ensures.items ∙ joined-one c.self.inside.blocks.items c.args.block ∙ ap (λ all. all ++ c.args.block) c.self.view_is
