use Rattle.std.proofs.Common.{◌≡◌, ◌∙◌, ap, sym, subst, map, length, arith, List}
use Rattle.std.specs.Arc.{arc_value}
use Rattle.std.specs.Option.{option_map}
use Rattle.run_engine.specs.SegmentView.{SegmentView}
use Rattle.run_engine.specs.inner.Blocks.{laid_over, AreSoundBelow, standing}
use Rattle.run_engine.specs.Segments.{trace_of}
use Rattle.run_engine.proofs.MeasureLemmas.{measured-as}
use Rattle.run_engine.proofs.BlockLemmas.{length-standing, standing-own}
use Rattle.run_engine.proofs.segments.block.Block.renewed.Goals as goal

pub invariant_of-result : goal.invariant_of-result
invariant_of-result c =
    let x = option_map arc_value c.self.inside.laid in
    let ss : List SegmentView = standing c.self.inside.given_up c.self.inside.from c.self.inside.len (arc_value c.self.inside.segments).items in
    let long : length ss ≡ c.self.inside.len = length-standing c.self.inside.given_up c.self.inside.from c.self.inside.len (arc_value c.self.inside.segments).items c.self.invariant.0 in
    let items : (arc_value c.in_ok-segments.segments).items ≡ ss = ap (λ v. v.items) c.in_ok-segments.ensures.ok ∙ c.in_ok-left.ensures ∙ ap (standing c.self.inside.given_up c.self.inside.from c.self.inside.len) (c.deref-2.ensures.value ∙ ap (λ v. v.items) c.deref.ensures) in
    rw (items, c.none-given_up.ensures) (
      omega (arith, long, c.self.invariant.0),
      omega (arith, long, c.self.invariant.0, c.self.invariant.1),
      subst (AreSoundBelow x) (sym (standing-own 64 c.self.inside.len ss long)) c.self.invariant.2,
      measured-as (map (laid_over x) ss) _ c.self.inside.ops c.self.inside.bounds.least c.self.inside.bounds.greatest (ap (λ all. trace_of (map (laid_over x) all)) (sym (standing-own 64 c.self.inside.len ss long))) c.self.invariant.3,
    )

pub returns : goal.returns
returns c =
    let x = option_map arc_value c.self.inside.laid in
    let ss : List SegmentView = standing c.self.inside.given_up c.self.inside.from c.self.inside.len (arc_value c.self.inside.segments).items in
    let long : length ss ≡ c.self.inside.len = length-standing c.self.inside.given_up c.self.inside.from c.self.inside.len (arc_value c.self.inside.segments).items c.self.invariant.0 in
    let items : (arc_value c.in_ok-segments.segments).items ≡ ss = ap (λ v. v.items) c.in_ok-segments.ensures.ok ∙ c.in_ok-left.ensures ∙ ap (standing c.self.inside.given_up c.self.inside.from c.self.inside.len) (c.deref-2.ensures.value ∙ ap (λ v. v.items) c.deref.ensures) in
    rw (items, c.none-given_up.ensures) (ap (map (laid_over x)) (standing-own 64 c.self.inside.len ss long) ∙ c.self.view_is)
