use Rattle.std.proofs.Common.{◌≡◌, ◌+◌, ◌++◌, ◌∷◌, [], ◌∙◌, ap, sym, length, arith, length-append}
use Rattle.std.proofs.lemmas.List.{append-nil}
use Rattle.run_engine.specs.inner.Parts.{joined}
use Rattle.run_engine.specs.Segments.{trace_of}
use Rattle.run_engine.proofs.SegmentLemmas.{trace_of-append}
use Rattle.run_engine.proofs.segments.blocks.Segments.push.Goals as goal

pub invariant_of-result : goal.invariant_of-result
invariant_of-result c =
    let old = joined c.self.inside.blocks.items in
    let all : joined c.push_last.new.blocks.items ≡ joined c.self.inside.blocks.items ++ c.args.segment ∷ [] = rw c.in-None.is at c.in_ok-push_last.ensures.taken in
    let long : length (joined c.push_last.new.blocks.items) ≡ length (joined c.self.inside.blocks.items) + 1 = ap length all ∙ length-append old (c.args.segment ∷ []) in
    let ops : length (trace_of (joined c.push_last.new.blocks.items)) ≡ length (trace_of (joined c.self.inside.blocks.items)) + length c.args.segment.ops =
    ap length (ap trace_of all ∙ trace_of-append old (c.args.segment ∷ []) ∙ ap (λ t. trace_of old ++ t) (append-nil c.args.segment.ops)) ∙ length-append (trace_of old) c.args.segment.ops in (
      c.self.invariant.0 ∙ sym c.in_ok-push_last.ensures.starts,
      omega (arith, c.self.invariant.1, long),
      omega (arith, c.if-self-ge-MAX_OPS.false),
      c.self.invariant.3 ∙ sym c.in_ok-push_last.ensures.positions,
      omega (arith, c.self.invariant.4, ops, ap length c.ops-more.ensures),
      omega (arith, c.self.invariant.5, c.if-more-self.false),
    )
